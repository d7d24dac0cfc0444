use mathlib.Core.Path.{◌≡◌, refl, sym, ◌∙◌}
use mathlib.Core.Bool.{true, false}
use Prim.Native.Nat.{ℕ, ◌<◌}
use native.Mathlib.Omega.{arith}
use borrow.Author.Tests.{lt-ltb, le-ltb}
use Rattle.fields.specs.Layout.{capacity_of, used_of}
use Rattle.table.specs.WellFormed.{is_county, well_formed}
use Rattle.table.proofs.WellFormedLaws.{sized, long}
use Rattle.joining.proofs.FrameLaws.{before-used}
use Rattle.protocol.specs.Calls.{Joining, join}
use Rattle.protocol.proofs.QuestionLaws.{county-is}
use Rattle.questions.proofs.QuestionLaws.{refused-is}
use Rattle.joins.proofs.JoinLaws.{join-answers, join-done}
use Rattle.joins.proofs.join.Goals.{Else-capacity-used, Else-not-is_county, Else-not-ordered}
use Rattle.joins.proofs.join.Goals as goal

-- the arguments of the call
abbrev joining : (name county : ℕ) → Joining
joining name county = record { name = name; county = county }

-- question 1 is yes
formed : (c : Else-not-ordered) → well_formed c.args.t.now ≡ true
formed c = sym c.ordered.ensures.0 ∙ c.if-not-ordered.false

-- and 14
room : (c : Else-capacity-used) → let t = c.args.t.now in used_of t < capacity_of t
room c = omega (arith, c.capacity.ensures, c.used-used.ensures, c.if-capacity-used.false)

-- and 20
placed : (c : Else-not-is_county) → is_county c.args.county ≡ true
placed c = sym c.is_county.ensures ∙ c.if-not-is_county.false

pub returns-then-not-ordered : goal.returns-then-not-ordered
returns-then-not-ordered c =
    let no = refused-is c.args.t.now (join (joining c.args.name c.args.county)) 1 (join-answers _ _ false _ _ _ (sym c.ordered.ensures.0 ∙ c.if-not-ordered.true) refl refl refl) (omega arith) in
    (no.result, no.table)

pub place_of-requires : goal.place_of-requires
place_of-requires c = (formed (goal.at.place_of-requires c).Else-not-ordered, (c.ordered.ensures.1 (c.if-not-ordered.false)).ordered)

pub returns-in_default : goal.returns-in_default
returns-in_default c =
    let no = refused-is c.args.t.now (join (joining c.args.name c.args.county)) 13 (join-answers _ _ true false _ _ (formed (goal.at.returns-in_default c).Else-not-ordered) c.in_default.ensures refl refl) (omega arith) in
    (no.result, no.table)

pub used-used-requires : goal.used-used-requires
used-used-requires c = long (sized (formed (goal.at.used-used-requires c).Else-not-ordered))

pub capacity-requires : goal.capacity-requires
capacity-requires c = long (sized (formed (goal.at.capacity-requires c).Else-not-ordered))

pub returns-then-capacity-used : goal.returns-then-capacity-used
returns-then-capacity-used c =
    let full = le-ltb (used_of c.args.t.now) (capacity_of c.args.t.now) (omega (arith, c.capacity.ensures, c.used-used.ensures, c.if-capacity-used.true)) in
    let no = refused-is c.args.t.now (join (joining c.args.name c.args.county)) 14 (join-answers _ _ true true false _ (formed (goal.at.returns-then-capacity-used c).Else-not-ordered) c.in-Some.ensures.0 full refl) (omega arith) in
    (no.result, no.table)

pub returns-then-not-is_county : goal.returns-then-not-is_county
returns-then-not-is_county c =
    let no = refused-is c.args.t.now (join (joining c.args.name c.args.county)) 20 (join-answers _ _ true true true false (formed (goal.at.returns-then-not-is_county c).Else-not-ordered) c.in-Some.ensures.0 (lt-ltb _ _ (room (goal.at.returns-then-not-is_county c).Else-capacity-used)) (sym c.is_county.ensures ∙ c.if-not-is_county.true)) (omega arith) in
    (no.result, no.table)

pub overflow_cast-county : goal.overflow_cast-county
overflow_cast-county c = record { fits = omega (arith, county-is _ (placed (goal.at.overflow_cast-county c).Else-not-is_county)) }

pub admit-requires : goal.admit-requires
admit-requires c =
    let f = formed (goal.at.admit-requires c).Else-not-ordered in
    (sized f, room (goal.at.admit-requires c).Else-capacity-used, rw c.in-Some.ensures.1 (before-used c.args.t.now f c.args.name (room (goal.at.admit-requires c).Else-capacity-used)))

pub returns : goal.returns
returns c =
    let passed = join-answers c.args.t.now (joining c.args.name c.args.county) true true true true (formed (goal.at.returns c).Else-not-ordered) c.in-Some.ensures.0 (lt-ltb _ _ (room (goal.at.returns c).Else-capacity-used)) (placed (goal.at.returns c).Else-not-is_county) in
    let yes = join-done c.args.t.now (joining c.args.name c.args.county) _ _ _ passed c.used-used.ensures c.in-Some.ensures.1 c.admit.ensures in
    (yes.0, yes.1)
