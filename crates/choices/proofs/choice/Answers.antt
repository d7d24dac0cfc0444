use mathlib.Core.Bool.{true}
use mathlib.Core.Path.{◌≡◌, refl, sym, ◌∙◌, ap, ap₂}
use Prim.Native.Nat.{ℕ, ◌≤◌, ◌^◌, ◌<◌}
use native.Mathlib.Omega.{arith}
use borrow.Author.Tests.{lt-leb, ne_eqb}
use Rattle.asking.specs.Asking.{result_number}
use Rattle.sets.specs.Upto.{Within}
use Rattle.sets.specs.Sets.{has}
use Rattle.sets.proofs.UptoLaws.{count-le}
use Rattle.quorums.specs.declared.Kind.{Kind}
use Rattle.fields.specs.declared.Laid.{Laid}
use Rattle.fields.specs.Layout.{get, name, list, used_of, name_of, list_of}
use Rattle.table.specs.Chain.{frame_of}
use Rattle.table.specs.WellFormed.{between, well_formed}
use Rattle.table.proofs.FormLaws.{between_is}
use Rattle.table.proofs.WellFormedLaws.{sized, long}
use Rattle.counties.specs.Counties.{Frame, list_choice}
use Rattle.grouping.specs.Grouped.{Framed}
use Rattle.grouping.proofs.GroupLaws.{frame-by}
use Rattle.grouping.proofs.FrameLaws.{listed-of}
use Rattle.protocol.specs.Calls.{is_used}
use Rattle.choosing.specs.Choosing.{kind_of, first_called, Chosen}
use Rattle.choices.proofs.ChoiceLaws.{no_one, no-two, no-four, no-five, all_yes, kind-is, kind-low}
use Rattle.choices.proofs.choice.Goals.{After-between, After-choice-rows, Else-not-between, Else-not-ordered}
use Rattle.choices.proofs.choice.Goals as goal

-- ---- the questions that are passed
formed-here : (c : Else-not-ordered) → well_formed c.args.t.now ≡ true
formed-here c = sym c.ordered.ensures.0 ∙ c.if-not-ordered.false

used-here : (c : After-between) → is_used c.args.t.now c.args.c ≡ c.between.result
unfolding is_used
used-here c = ap (between 1 c.args.c) (sym c.used-used.ensures) ∙ sym c.between.ensures

row-used : (c : Else-not-between) → is_used c.args.t.now c.args.c ≡ c.between.result → is_used c.args.t.now c.args.c ≡ true
row-used c used = used ∙ c.if-not-between.false

coordinator : (c : Else-not-between) → is_used c.args.t.now c.args.c ≡ c.between.result → Within (used_of c.args.t.now) c.args.c
unfolding is_used
coordinator c used = between_is 1 c.args.c (used_of c.args.t.now) (row-used c used)

-- the frame that question 1 wrote down
framed-here : (c : Else-not-ordered) → Framed c.args.t.now c.ordered.new.order c.ordered.new.sets
framed-here c = c.ordered.ensures.1 (c.if-not-ordered.false)

-- a refusal, told
told : (o p : Chosen) → o ≡ p → result_number p.refusal p.value ≡ result_number o.refusal o.value
told o p e = ap (λ (q : Chosen). result_number q.refusal q.value) (sym e)

pub returns-then-not-ordered : goal.returns-then-not-ordered
returns-then-not-ordered c =
    let o = no_one c.args.t.now c.args.c c.args.kind c.args.set.now (sym c.ordered.ensures.0 ∙ c.if-not-ordered.true) in
    (told _ _ o, refl, ap (λ (q : Chosen). q.set) (sym o))

pub used-used-requires : goal.used-used-requires
used-used-requires c = long (sized (formed-here c))

pub returns-then-not-between : goal.returns-then-not-between
returns-then-not-between c =
    let g = goal.at.returns-then-not-between c in
    let o = no-two c.args.t.now c.args.c c.args.kind c.args.set.now (formed-here g.Else-not-ordered) (used-here g.After-between ∙ c.if-not-between.true) in
    (told _ _ o, refl, ap (λ (q : Chosen). q.set) (sym o))

pub returns-in-Err : goal.returns-in-Err
returns-in-Err c =
    let g = goal.at.returns-in-Err c in
    let o = no-four c.args.t.now c.args.c c.args.kind c.args.set.now (formed-here g.Else-not-ordered) (row-used g.Else-not-between (used-here g.After-between)) (lt-leb c.args.kind 1 c.in-Err.ensures.1) in
    (told _ _ o, refl, ap (λ (q : Chosen). q.set) (sym o))

pub returns-then-set-ne8 : goal.returns-then-set-ne8
returns-then-set-ne8 c =
    let g = goal.at.returns-then-set-ne8 c in
    let o = no-five c.args.t.now c.args.c c.args.kind c.args.set.now (formed-here g.Else-not-ordered) (row-used g.Else-not-between (used-here g.After-between)) (kind-low _ _ c.in-Ok.ensures) (ne_eqb _ _ c.if-set-ne8.true) in
    (told _ _ o, refl, ap (λ (q : Chosen). q.set) (sym o))

pub row_of-row-requires : goal.row_of-row-requires
row_of-row-requires c =
    let g = goal.at.row_of-row-requires c in
    (sized (formed-here g.Else-not-ordered), coordinator g.Else-not-between (used-here g.After-between))

pub new-frame-requires : goal.new-frame-requires
new-frame-requires c = let f = framed-here (goal.at.new-frame-requires c).Else-not-ordered in (listed-of f c.used-used.ensures, f.grouped.apart)

-- the rows found are those that the coordinator calls first
rows_are : (c : After-choice-rows) → Framed c.args.t.now c.ordered.new.order c.ordered.new.sets
    → has c.choice-rows.result.bits ≡ first_called (kind_of c.args.kind) c.args.t.now c.args.c
unfolding first_called name_of list_of
rows_are c framed =
    let row = c.row_of-row.ensures.0 in
    c.choice-rows.ensures
    ∙ ap₂ (λ (kind : Kind) (f : Frame). list_choice kind f c.list.result c.name.result) (sym (kind-is _ _ c.in-Ok.ensures)) (rw (c.new-frame.ensures, c.used-used.ensures) (frame-by _ _ _ framed.ordered framed.grouped))
    ∙ ap₂ (λ (x : Laid) (a : ℕ). list_choice (kind_of c.args.kind) (frame_of c.args.t.now) x a) (c.list.ensures ∙ ap list row) (c.name.ensures ∙ ap (get name) row)

small : (c : After-choice-rows) → c.choice-rows.result.bits < 2 ^ 64
small c = omega (arith, c.choice-rows.type_inv)

pub overflow_cast-result : goal.overflow_cast-result
overflow_cast-result c = record { fits = omega (arith, c.size.ensures, count-le 64 (has c.choice-rows.result.bits)) }

pub returns : goal.returns
returns c =
    let g = goal.at.returns c in
    let yes = all_yes c.args.t.now c.args.c c.args.kind c.args.set.now (formed-here g.Else-not-ordered) (row-used g.Else-not-between (used-here g.After-between)) (kind-low _ _ c.in-Ok.ensures) (omega (arith, c.if-set-ne8.false)) c.choice-rows.result.bits (small g.After-choice-rows) (rows_are g.After-choice-rows (framed-here g.Else-not-ordered)) in
    (ap₂ result_number (sym yes.0) (c.size.ensures ∙ yes.1), refl, c.store_at.ensures ∙ yes.2)
