use mathlib.Core.Path.{◌≡◌, sym, ◌∙◌, ap, ap₂}
use mathlib.Core.Bool.{Bool, true, ◌&&◌}
use mathlib.Core.List.{List, []}
use Prim.Native.Nat.{ℕ}
use native.Mathlib.Omega.{arith}
use borrow.Author.Tests.{ltb-true}
use lib.Dec.{ltb}
use Rattle.std.proofs.lemmas.Result.{err_from_is_err_and}
use Rattle.quorums.specs.declared.Kind.TheVariants.{Write}
use Rattle.sets.specs.Upto.{every}
use Rattle.sets.specs.Sets.{has}
use Rattle.sets.proofs.SetLaws.{has_within}
use Rattle.fields.specs.Layout.{files_of, used_of}
use Rattle.table.specs.Chain.{frame_of}
use Rattle.table.specs.WellFormed.{limit, well_formed}
use Rattle.table.proofs.WellFormedLaws.{newest, header, sized, long}
use Rattle.asking.proofs.AskingLaws.{some-number}
use Rattle.counties.specs.Marks.{laid_now}
use Rattle.grouping.specs.declared.Frame.{Frame}
use Rattle.grouping.specs.Grouped.{county_by, Framed}
use Rattle.grouping.proofs.GroupLaws.{frame-by}
use Rattle.grouping.proofs.FrameLaws.{listed-of}
use Rattle.protocol.specs.Polls.{current, quorum_held}
use Rattle.sheet.specs.Sheet.{sheet_right}
use Rattle.sheet.proofs.SheetLaws.{sheet-facts}
use Rattle.protocol.specs.Calls.{Checking, lent_sheet, answers}
use Rattle.protocol.proofs.QuestionLaws.{ByCoordinator, passed_first}
use Rattle.checks.proofs.CheckLaws.{check-one, check-early, check-same, held-is, check-six, check-seven, check-full, check_done}
use Rattle.checks.proofs.check.Goals.{After-held_unless, In_ok-coordinator_asked, Else-not-is_right, Else-not-ordered, Else-not-below_limit, Else-not-found, Else-v-r}
use Rattle.checks.proofs.check.Goals as goal

-- the arguments of the call
abbrev checking : (c r : ℕ) (sheet : List ℕ) → Checking
checking c r sheet = record { c = c; r = r; sheet = sheet }

-- question 1 of the sheet and of the table
right : (c : Else-not-is_right) → sheet_right c.args.sheet.now ≡ true
right c = sym c.is_right.ensures ∙ c.if-not-is_right.false

framed : (c : Else-not-ordered) → Framed c.args.t.now c.ordered.new.order c.ordered.new.sets
framed c = c.ordered.ensures.1 c.if-not-ordered.false

-- 2 and 3 are passed
first : (c : In_ok-coordinator_asked) → ByCoordinator c.args.t.now c.args.c c.args.r
first c = (passed_first _ _ _ [] (sym c.in_ok-coordinator_asked.ensures)).0

-- R is not the list in force
other : (c : Else-v-r) → c.judged-v.result.force.list.members ≡ c.args.r → ⊥
other c e = omega (arith, e)

-- question 6, as it was asked
held : (c : After-held_unless) → c.held_unless.result ≡ quorum_held Write (frame_of c.args.t.now) (answers c.args.t.now 1 c.args.r) (has c.args.r)
held c =
    let a = c.args in
    let f = c.ordered.ensures.1 c.if-not-ordered.false in
    held-is a.t.now (checking a.c a.r a.sheet.now) (sym c.is_right.ensures ∙ c.if-not-is_right.false) (sym c.in_ok-coordinator_asked.ensures) c.judged-v.result c.judged-v.ensures c.has_whole-whole.result _ _
    (rw (c.new-frame.ensures, c.used.ensures) (frame-by _ _ _ f.ordered f.grouped)) c.has_whole-whole.ensures c.held_unless.ensures

-- and 7, of every file
seven : (c : Else-not-found) → every (files_of c.args.t.now) (λ q. current (answers c.args.t.now q c.args.r) (has c.args.r)) ≡ true
seven c = sym c.look_through-found.ensures.current ∙ c.if-not-found.false

-- and 8
room : (c : Else-not-below_limit) → ltb c.judged-v.result.force.epoch limit ≡ true
room c = sym c.below_limit.ensures ∙ c.if-not-below_limit.false

pub returns-then-not-is_right : goal.returns-then-not-is_right
unfolding lent_sheet
returns-then-not-is_right c =
    let a = c.args in
    let no = check-one a.t.now (checking a.c a.r a.sheet.now) (rw (sym c.is_right.ensures ∙ c.if-not-is_right.true)) in
    (no.result, no.table, no.sheet)

pub returns-then-not-ordered : goal.returns-then-not-ordered
unfolding lent_sheet
returns-then-not-ordered c =
    let a = c.args in
    let no = check-one a.t.now (checking a.c a.r a.sheet.now) (rw (right (goal.at.returns-then-not-ordered c).Else-not-is_right) (sym c.ordered.ensures.0 ∙ c.if-not-ordered.true)) in
    (no.result, no.table, no.sheet)

pub coordinator_asked-requires : goal.coordinator_asked-requires
coordinator_asked-requires c = (framed c).formed

pub returns-in_err-coordinator_asked : goal.returns-in_err-coordinator_asked
unfolding lent_sheet
returns-in_err-coordinator_asked c =
    let a = c.args in
    let p = err_from_is_err_and c.from_residual.result c.from_residual.ensures.1 in
    let no = check-early a.t.now (checking a.c a.r a.sheet.now) (right (goal.at.returns-in_err-coordinator_asked c).Else-not-is_right) _ c.in_err-coordinator_asked.ensures (some-number _) in
    (rw (p.1, p.2) no.result, no.table, no.sheet)

pub judged-v-requires : goal.judged-v-requires
judged-v-requires c = let y = first c in (sized y.formed, newest _ y.formed, omega (arith, (header (sized y.formed).header).files), y.rows)

pub returns-then-v-r : goal.returns-then-v-r
unfolding lent_sheet
returns-then-v-r c =
    let a = c.args in
    let yes = check-same a.t.now (checking a.c a.r a.sheet.now) (right (goal.at.returns-then-v-r c).Else-not-is_right) (sym c.in_ok-coordinator_asked.ensures) c.judged-v.result c.judged-v.ensures (omega arith) in
    (yes.0, yes.1, yes.2)

pub used-requires : goal.used-requires
used-requires c = long (sized (framed (goal.at.used-requires c).Else-not-ordered).formed)

pub new-frame-requires : goal.new-frame-requires
new-frame-requires c = let f = framed (goal.at.new-frame-requires c).Else-not-ordered in (listed-of f c.used.ensures, f.grouped.apart)

pub returns-then-not-held_unless : goal.returns-then-not-held_unless
unfolding lent_sheet
returns-then-not-held_unless c =
    let a = c.args in
    let p = goal.at.returns-then-not-held_unless c in
    let no = check-six a.t.now (checking a.c a.r a.sheet.now) (right p.Else-not-is_right) (sym c.in_ok-coordinator_asked.ensures) c.judged-v.result c.judged-v.ensures (other p.Else-v-r) (sym (held p.After-held_unless) ∙ c.if-not-held_unless.true) in
    (no.result, no.table, no.sheet)

pub look_through-found-requires : goal.look_through-found-requires
look_through-found-requires c =
    let y = first (goal.at.look_through-found-requires c).In_ok-coordinator_asked in
    (sized y.formed, newest _ y.formed, y.rows, c.judged-v.ensures.tally)

pub returns-then-not-found : goal.returns-then-not-found
unfolding lent_sheet
returns-then-not-found c =
    let a = c.args in
    let p = goal.at.returns-then-not-found c in
    let no = check-seven a.t.now (checking a.c a.r a.sheet.now) (right p.Else-not-is_right) (sym c.in_ok-coordinator_asked.ensures) c.judged-v.result c.judged-v.ensures (other p.Else-v-r) (sym (held p.After-held_unless) ∙ c.if-not-held_unless.false) (sym c.look_through-found.ensures.current ∙ c.if-not-found.true) in
    (no.result, no.table, no.sheet)

pub returns-then-not-below_limit : goal.returns-then-not-below_limit
unfolding lent_sheet
returns-then-not-below_limit c =
    let a = c.args in
    let p = goal.at.returns-then-not-below_limit c in
    let no = check-full a.t.now (checking a.c a.r a.sheet.now) (right p.Else-not-is_right) (sym c.in_ok-coordinator_asked.ensures) c.judged-v.result c.judged-v.ensures (other p.Else-v-r) (sym (held p.After-held_unless) ∙ c.if-not-held_unless.false) (seven p.Else-not-found) (sym c.below_limit.ensures ∙ c.if-not-below_limit.true) in
    (no.result, no.table, no.sheet)

pub overflow_add-epoch : goal.overflow_add-epoch
unfolding limit
overflow_add-epoch c = let e = c.judged-v.result.force.epoch in record { fits = omega (arith, ltb-true e limit (room (goal.at.overflow_add-epoch c).Else-not-below_limit)) }

pub check_rows-requires : goal.check_rows-requires
check_rows-requires c = let y = first (goal.at.check_rows-requires c).In_ok-coordinator_asked in (sized y.formed, newest _ y.formed, λ i h. has_within _ _ i y.rows h)

pub clear-requires : goal.clear-requires
clear-requires c = (sheet-facts _ (right (goal.at.clear-requires c).Else-not-is_right)).long

pub returns : goal.returns
unfolding lent_sheet
returns c =
    let a = c.args in
    let p = goal.at.returns c in
    let l = c.look_through-found in
    let yes = check_done a.t.now (checking a.c a.r a.sheet.now) (right p.Else-not-is_right) (sym c.in_ok-coordinator_asked.ensures) c.judged-v.result c.judged-v.ensures (other p.Else-v-r) (sym (held p.After-held_unless) ∙ c.if-not-held_unless.false) (seven p.Else-not-found) (room p.Else-not-below_limit) l.result l.ensures in
    (yes.0, rw (← (c.laid_now-list.ensures ∙ ap₂ (λ (b : Bool) (y : ℕ → ℕ). laid_now b y a.r) c.is_tall-tall.ensures (ap (λ (f : Frame). county_by f.counties) c.new-frame.ensures ∙ (framed p.Else-not-ordered).grouped.county))) c.check_rows.ensures ∙ yes.1, c.clear.ensures ∙ yes.2)
