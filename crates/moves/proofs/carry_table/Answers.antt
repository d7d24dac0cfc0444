use mathlib.Core.Path.{◌≡◌, refl, sym, ◌∙◌, ap}
use mathlib.Core.List.{◌++◌, append-nil}
use Prim.Native.Nat.{ℕ, ◌+◌, ◌*◌}
use native.Mathlib.Omega.{arith}
use Rattle.octets.specs.Bytes.{bytes_of, part}
use Rattle.fields.specs.Layout.{stride_in, capacity_of, rows_end}
use Rattle.table.proofs.WellFormedLaws.{header, long}
use Rattle.carrying.specs.Moves.{carried_length}
use Rattle.blocks.specs.Blocks.{in_turn}
use Rattle.moves.proofs.MoveLaws.{Turn, from-fits, to-fits, end_fits, from-long, to-long, row-turn, turn-long, to_end, all-carried}
use Rattle.moves.proofs.carry_table.Goals.{In-loop-k}
use Rattle.moves.proofs.carry_table.Goals as goal

-- what is known in the turn of row k + 1
turn : (l : In-loop-k)
    → Turn l.args.t.now l.args.form l.loop-k.k l.row_length-size.result l.size_in-width.result (32 + l.file_length-file.result) (16 + l.loop-k.k * l.row_length-size.result) (16 + l.loop-k.k * l.size_in-width.result) l.loop-k.dest
unfolding rows_end
turn l =
    let loop = l.loop-k in
    record {
      sized = l.requires.0;
      former = l.requires.2;
      low = l.requires.3;
      below = omega (arith, l.loop-k-test.true, l.capacity-k-end.ensures);
      size_is = l.row_length-size.ensures;
      width_is = l.size_in-width.ensures ∙ ap (stride_in l.args.form 1) l.file_length-file.ensures;
      end_is = ap (λ (n : ℕ). 32 + n) l.file_length-file.ensures;
      from_is = ap (λ (n : ℕ). 16 + loop.k * n) l.row_length-size.ensures;
      to_is = refl;
      room = loop.invariant.0 ∙ l.carry_head.auto.dest ∙ l.requires.1;
    }

pub file_length-file-requires : goal.file_length-file-requires
file_length-file-requires c = long c.requires.0

pub capacity-k-end-requires : goal.capacity-k-end-requires
capacity-k-end-requires c = long c.requires.0

pub row_length-size-requires : goal.row_length-size-requires
row_length-size-requires c = let p = c.requires.0 in (long p, p.header)

pub size_in-width-requires : goal.size_in-width-requires
size_in-width-requires c = (omega arith, omega (arith, c.file_length-file.ensures, (header c.requires.0.header).file))

pub overflow_add-end : goal.overflow_add-end
overflow_add-end c = omega (arith, c.file_length-file.ensures, (header c.requires.0.header).file)

pub carry_head-requires : goal.carry_head-requires
unfolding carried_length
carry_head-requires c = (omega (arith, c.requires.1), long c.requires.0)

pub loop-k-init : goal.loop-k-init
unfolding rows_end in_turn
loop-k-init c = let z : 16 + 0 * c.size_in-width.result ≡ 16 = omega arith in (refl, rw z (c.carry_head.ensures ∙ sym (append-nil _)))

pub overflow_mul-from : goal.overflow_mul-from
overflow_mul-from c = omega (arith, from-fits (turn c))

pub overflow_mul-to : goal.overflow_mul-to
overflow_mul-to c = omega (arith, to-fits (turn c))

pub overflow_add-to : goal.overflow_add-to
overflow_add-to c = omega (arith, to-fits (turn (goal.at.overflow_add-to c).In-loop-k))

pub slice_bounds-carry_row-end : goal.slice_bounds-carry_row-end
slice_bounds-carry_row-end c = omega (arith, to-fits (turn (goal.at.slice_bounds-carry_row-end c).In-loop-k))

pub overflow_add-from : goal.overflow_add-from
overflow_add-from c = omega (arith, from-fits (turn (goal.at.overflow_add-from c).In-loop-k))

pub slice_bounds-carry_row-end-in-loop-k : goal.slice_bounds-carry_row-end-in-loop-k
slice_bounds-carry_row-end-in-loop-k c = omega (arith, from-fits (turn (goal.at.slice_bounds-carry_row-end-in-loop-k c).In-loop-k))

pub carry_row-requires : goal.carry_row-requires
carry_row-requires c =
    let e = end_fits (turn (goal.at.carry_row-requires c).In-loop-k) in
    (e.0, omega (arith, e, from-long (turn (goal.at.carry_row-requires c).In-loop-k)), omega (arith, e, to-long (turn (goal.at.carry_row-requires c).In-loop-k)))

pub overflow_add-from-in-loop-k : goal.overflow_add-from-in-loop-k
overflow_add-from-in-loop-k c = omega (arith, from-fits (turn (goal.at.overflow_add-from-in-loop-k c).In-loop-k))

pub overflow_add-to-in-loop-k : goal.overflow_add-to-in-loop-k
overflow_add-to-in-loop-k c = omega (arith, to-fits (turn (goal.at.overflow_add-to-in-loop-k c).In-loop-k))

pub loop-k-preserved : goal.loop-k-preserved
unfolding rows_end
loop-k-preserved c =
    let row = c.carry_row in
    let x = turn (goal.at.loop-k-preserved c).In-loop-k in
    let e : 16 + (c.loop-k.k + 1) * c.size_in-width.result ≡ 16 + c.loop-k.k * c.size_in-width.result + c.size_in-width.result = omega arith in
    (turn-long x _ row.ensures ∙ c.loop-k.invariant.0, rw e (row-turn x _ row.ensures (bytes_of 1 c.args.form ++ part 1 15 c.args.t.now) c.loop-k.invariant.1))

pub returns : goal.returns
returns c =
    let l = c.loop-k in
    let e : l.k ≡ capacity_of c.args.t.now = omega (arith, c.loop-k-test.false, c.capacity-k-end.ensures) in
    let w = c.size_in-width.ensures ∙ ap (stride_in c.args.form 1) c.file_length-file.ensures in
    all-carried _ _ c.args.form _ _ e (to_end c.args.t.now c.args.form _ _ _ l.dest refl e w (l.invariant.0 ∙ c.carry_head.auto.dest ∙ c.requires.1)) l.invariant.1
