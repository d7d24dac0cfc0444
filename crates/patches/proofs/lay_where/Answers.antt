use mathlib.Core.Path.{◌≡◌, refl, ◌∙◌, ap₂}
use mathlib.Core.Bool.{true, false}
use native.Mathlib.Omega.{arith}
use Prim.Native.Nat.{ℕ, ◌+◌, ◌≤◌}
use lib.ListN.{length}
use Rattle.octets.specs.Bytes.{part, put}
use Rattle.octets.proofs.ByteLaws.{length_part}
use Rattle.octets.proofs.CodeLaws.{part-back, part-is}
use Rattle.fields.specs.Layout.{get}
use Rattle.window.specs.Windows.{size, start, patch_in, laid}
use Rattle.patches.proofs.LayLaws.{patch-bounds}
use Rattle.patches.proofs.lay_where.Goals.{After-u16_at-start, After-u8_at-size}
use Rattle.patches.proofs.lay_where.Goals as goal

size_is : (c : After-u8_at-size) → c.u8_at-size.result ≡ get size c.args.r.now
unfolding get size
size_is c = c.u8_at-size.ensures

start_is : (c : After-u16_at-start) → c.u16_at-start.result ≡ get start c.args.r.now
unfolding get start
start_is c = c.u16_at-start.ensures

bounds : (c : After-u16_at-start) → (get size c.args.r.now ≤ 32) × (get start c.args.r.now + get size c.args.r.now ≤ length c.args.contents.now)
bounds c = patch-bounds (length c.args.contents.now) c.args.r.now c.requires.1

pub returns-then-not-wanted : goal.returns-then-not-wanted
returns-then-not-wanted c = let w : c.args.wanted ≡ false = c.if-not-wanted.true in rw w

pub slice_bounds-copy-end : goal.slice_bounds-copy-end
slice_bounds-copy-end c = omega (arith, size_is (goal.at.slice_bounds-copy-end c).After-u8_at-size, start_is c, (bounds c).1)

pub slice_bounds-copy-end-2 : goal.slice_bounds-copy-end-2
slice_bounds-copy-end-2 c = omega (arith, size_is (goal.at.slice_bounds-copy-end-2 c).After-u8_at-size, (bounds (goal.at.slice_bounds-copy-end-2 c).After-u16_at-start).0, c.requires.0)

pub returns : goal.returns
unfolding laid patch_in
returns c =
    let n : length (part 4 c.u8_at-size.result c.args.r.now) ≡ c.u8_at-size.result = length_part 4 c.u8_at-size.result c.args.r.now (omega (arith, size_is (goal.at.returns c).After-u8_at-size, (bounds (goal.at.returns c).After-u16_at-start).0, c.requires.0)) in
    let w : c.args.wanted ≡ true = c.if-not-wanted.false in
    rw w (part-back c.u16_at-start.result c.u8_at-size.result c.args.contents.now _ (part 4 c.u8_at-size.result c.args.r.now)
    (c.copy.ensures ∙ part-is c.args.r.now 4 c.u8_at-size.result 4 c.u8_at-size.result refl refl) n
    ∙ ap₂ (λ (a m : ℕ). put a (part 4 m c.args.r.now) c.args.contents.now) (start_is (goal.at.returns c).After-u16_at-start) (size_is (goal.at.returns c).After-u8_at-size))
