use mathlib.Core.Bool.{Bool, not, ◌&&◌}
use mathlib.Core.Path.{◌≡◌}
use Prim.Native.Nat.{ℕ}
use lib.ListN.{length}
use Rattle.places.specs.Places.{placed}
use Rattle.protocol.specs.Polls.{polled}
use Rattle.fields.specs.Layout.{is_empty, list_of}
use Rattle.sets.proofs.MemberLaws.{Taken}
use Rattle.sets.specs.Sets.{has}
use Rattle.polls.proofs.gather.Given as goal

-- the places and the sets show what the rows taken so far say
abbrev pub invariant-loop-i : goal.invariant-loop-i
invariant-loop-i l = (s : ℕ → Bool) × Taken l.initial.i-iterator.left.bits l.i-iterator.left.bits s
    × (has l.stale.bits ≡ (polled l.t l.q s).stale) × (has l.listed.bits ≡ (λ (i : ℕ). s i && not (is_empty (list_of l.t i))))
    × (placed l.p.versions ≡ (polled l.t l.q s).version) × (placed l.p.desired ≡ (polled l.t l.q s).desired) × (placed l.p.epochs ≡ (polled l.t l.q s).epoch)
    × (length l.p.versions ≡ 64) × (length l.p.desired ≡ 64) × (length l.p.epochs ≡ 64)
