use Rattle.octets.specs.Bytes.{put}
use Rattle.telling.specs.Text.{in_bytes}
use Rattle.notices.proofs.SaidLaws.{heading-is}
use Rattle.notices.proofs.say_heading.Goals as goal

pub returns : goal.returns
unfolding in_bytes put
returns c =
    let a = c.args in
    rw (c.say_number-3.ensures, c.say_number-2.ensures, c.say_number.ensures, c.copy.ensures) (heading-is a.call a.name a.number a.buffer.now)
