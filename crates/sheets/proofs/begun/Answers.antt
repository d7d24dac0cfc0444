use Rattle.sheets.proofs.CodeLaws.{other_length, line_wrong, total_over, total-fits}
use Rattle.sheets.proofs.begun.Goals as goal

pub returns-then-s-ne-SHEET : goal.returns-then-s-ne-SHEET
returns-then-s-ne-SHEET c = other_length c.args.s.now c.if-s-ne-SHEET.true

pub returns-in_err-taken : goal.returns-in_err-taken
returns-in_err-taken c = rw c.from_residual.ensures (line_wrong c.args.s.now c.if-s-ne-SHEET.false (c.in_err-taken.ensures))

pub returns-then-total-le-LIMIT : goal.returns-then-total-le-LIMIT
returns-then-total-le-LIMIT c =
    let e = c.in_ok-taken.ensures in
    total-fits c.args.s.now c.if-s-ne-SHEET.false c.in_ok-taken.taken c.u32_at-total.result e.0 e.1 c.u32_at-total.ensures c.if-total-le-LIMIT.true _ c.checked_sub.ensures

pub returns-else-total-le-LIMIT : goal.returns-else-total-le-LIMIT
returns-else-total-le-LIMIT c =
    let e = c.in_ok-taken.ensures in
    total_over c.args.s.now c.if-s-ne-SHEET.false c.in_ok-taken.taken c.u32_at-total.result e.0 e.1 c.u32_at-total.ensures c.if-total-le-LIMIT.false
