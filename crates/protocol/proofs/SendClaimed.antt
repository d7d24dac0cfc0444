-- What is claimed of sends, proved.
use Prim.Native.Nat.{◌-◌}
use Rattle.window.specs.Windows.{sent}
use Rattle.protocol.specs.Rows.{sent_contents, refreshed_copy}
use Rattle.protocol.specs.Claims.{SendsByWindow}

pub sends-by-window : SendsByWindow
unfolding SendsByWindow refreshed_copy sent_contents sent
sends-by-window source other copy v w e = rw (← v, ← w, e)
