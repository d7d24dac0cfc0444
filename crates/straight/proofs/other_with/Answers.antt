use mathlib.Core.Path.{refl, sym, ◌∙◌, ap}
use mathlib.Core.Logic.{inl, inr}
use borrow.Author.Tests.{eq-eqb}
use Rattle.octets.specs.Bytes.{part}
use Rattle.octets.proofs.CodeLaws.{zero_number}
use Rattle.fields.specs.Layout.{get, epoch, list, epoch_of, list_of}
use Rattle.straight.proofs.other_with.Goals as goal

pub returns-then-has_list : goal.returns-then-has_list
unfolding epoch_of list_of
returns-then-has_list c =
    let f = rw c.row_at-row.ensures.0 at (c.has_list.ensures c.if-has_list.true) in
    record { named = inl refl; list = inl (record { epoch = f.0 ∙ c.requires.4; list = f.1 ∙ c.requires.5 }); rest = f.2 }

pub returns-then-has_list-2 : goal.returns-then-has_list-2
unfolding epoch_of list_of
returns-then-has_list-2 c =
    let f = rw c.row_at-row.ensures.0 at (c.has_list-2.ensures c.if-has_list-2.true) in
    record {
      named = inl refl;
      list = inr (record { epoch = f.0 ∙ c.epoch.ensures ∙ ap (get epoch) c.row_at-second.ensures.0; list = f.1 ∙ c.list.ensures ∙ ap list c.row_at-second.ensures.0 });
      rest = f.2;
    }

pub returns : goal.returns
returns c =
    let z = sym c.u8_at.ensures ∙ c.if-u8_at-ne0.false in
    record {
      named = inr (c.if-other-ne1.false, refl);
      list = inr (record { epoch = refl; list = refl });
      rest = rw (← c.row_at-row.ensures.0) (sym (zero_number (part 25 1 c.row_at-row.result.now)) ∙ eq-eqb _ 0 z);
    }
