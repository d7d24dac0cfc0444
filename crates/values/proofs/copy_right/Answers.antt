use Rattle.values.proofs.CopyLaws.{beyond, no_record, bare-asked, copy-asked, cut-kept}
use Rattle.windows.proofs.HeadLaws.{by-none}
use Rattle.table.specs.WellFormed.{limit, kept_right, copy_right}
use Rattle.fields.specs.Layout.{get, version, form_value, mark_in, oldest_in, spare_in, spare}
use Rattle.octets.specs.Bytes.{part}
use Rattle.octets.proofs.CodeLaws.{zero_number}
use borrow.Author.Tests.{eq-eqb, ne_eqb}
use native.Mathlib.Omega.{arith}
use mathlib.Core.Bool.{Bool, true, false, ◌&&◌}
use Prim.Native.Nat.{◌-◌, ◌<◌}
use lib.Dec.{eqb}
use lib.ListN.{length}
use mathlib.Core.Path.{◌≡◌, refl, sym, ◌∙◌}
use Rattle.values.proofs.copy_right.Goals.{After-both, After-desired, Then-version-gt-LIMIT}
use Rattle.values.proofs.copy_right.Goals as goal

-- the first four bytes are 0, and the version is within the limit: desired version and window are left to be asked
bare : (c : After-desired) (b : Bool) → eqb c.desired.result 0 ≡ b → (b && kept_right form_value c.args.file c.args.copy.now) ≡ copy_right form_value c.args.file c.args.copy.now
unfolding limit
bare c b e =
    rw (← e, c.desired.ensures) (bare-asked c.args.copy.now (sym c.u32_at.ensures ∙ c.if-u32_at-eq0.true) c.args.file (omega (arith, c.version-version.ensures, c.if-version-gt-LIMIT.false)))

-- all but the window was tested together
asked : (c : After-both) (b : Bool) → c.both.result ≡ b → let a = c.args in
    copy_right form_value a.file a.copy.now ≡ (b && kept_right form_value a.file a.copy.now)
unfolding form_value mark_in spare_in spare
asked c b e =
    let a = c.args in
    copy-asked form_value a.file a.copy.now
    ∙ rw (sym e ∙ c.both.ensures, c.u16_at.ensures, c.copy_numbers-numbers.ensures, c.desired-2.ensures, c.mark.ensures, c.version-version.ensures, zero_number (part 2 2 a.copy.now))

-- it is beyond
over : (c : Then-version-gt-LIMIT) → limit < get version c.args.copy.now
unfolding limit
over c = omega (arith, c.version-version.ensures, c.if-version-gt-LIMIT.true)

pub returns-then-version-gt-LIMIT : goal.returns-then-version-gt-LIMIT
returns-then-version-gt-LIMIT c = beyond _ _ (over c)

pub returns-then-desired-ne0 : goal.returns-then-desired-ne0
returns-then-desired-ne0 c = bare (goal.at.returns-then-desired-ne0 c).After-desired false (ne_eqb c.desired.result 0 c.if-desired-ne0.true)

pub returns-then-u32_at-eq0 : goal.returns-then-u32_at-eq0
unfolding form_value oldest_in
returns-then-u32_at-eq0 c =
    let copy = c.args.copy.now in
    c.all_zero.ensures ∙ by-none c.args.file c.version-version.result _ _ (no_record copy (sym c.u32_at.ensures ∙ c.if-u32_at-eq0.true))
    ∙ cut-kept copy (length copy - 576) (omega (arith, c.requires)) form_value c.args.file _ _ (omega arith) c.version-version.ensures refl
    ∙ bare (goal.at.returns-then-u32_at-eq0 c).After-desired true (eq-eqb c.desired.result 0 c.if-desired-ne0.false)

pub returns-then-not-both : goal.returns-then-not-both
returns-then-not-both c = sym (asked (goal.at.returns-then-not-both c).After-both false (c.if-not-both.true))

pub returns : goal.returns
unfolding form_value oldest_in
returns c =
    c.window_right.ensures
    ∙ cut-kept c.args.copy.now (length c.args.copy.now - 576) (omega (arith, c.requires)) form_value c.args.file _ _ (omega arith) c.version-version.ensures c.oldest-oldest.ensures
    ∙ sym (asked (goal.at.returns c).After-both true (c.if-not-both.false))
