use Rattle.windows.proofs.ZeroLaws.{short-all}
use Rattle.windows.proofs.HeadLaws.{by-head, by-version, by_chain, by-rest, by-tails}
use Rattle.octets.proofs.CodeLaws.{tail-is}
use Rattle.octets.specs.Bytes.{all_zero}
use lib.ListN.{drop}
use native.Mathlib.Omega.{arith}
use Prim.Native.Nat.{◌*◌}
use mathlib.Core.Path.{◌≡◌, refl, sym, ◌∙◌, ap}
use Rattle.windows.proofs.Window.records_right.Goals.{After-all_zero}
use Rattle.windows.proofs.Window.records_right.Goals as goal

-- the bytes behind the leading records
rest-is : (c : After-all_zero) → c.all_zero.result ≡ all_zero (drop (c.leading-found.result.count * 36) c.args.self.records.now)
rest-is c =
    c.all_zero.ensures ∙ ap all_zero (tail-is c.args.self.records.now (c.leading-found.result.count * 36) (c.leading-found.result.count * 36) refl)

pub returns-then-k-eq0 : goal.returns-then-k-eq0
returns-then-k-eq0 c =
    by-head c.args.file c.args.version c.args.self.oldest c.leading-found.result.count c.args.self.records.now c.args.self.whole c.leading-found.ensures.0 c.requires c.if-k-eq0.true

pub returns-then-version-k : goal.returns-then-version-k
returns-then-version-k c =
    by-version c.args.file c.args.version c.args.self.oldest c.leading-found.result.count c.args.self.records.now c.args.self.whole c.leading-found.ensures.0 (omega (arith, c.if-version-k.true))

pub returns-then-not-chained : goal.returns-then-not-chained
returns-then-not-chained c =
    by_chain c.args.file c.args.version c.args.self.oldest c.leading-found.result.count c.args.self.records.now c.args.self.whole c.leading-found.ensures.0 (sym c.chained.ensures ∙ c.if-not-chained.true)

pub overflow_mul-end : goal.overflow_mul-end
overflow_mul-end c = omega (arith, c.leading-found.ensures.0.few)

pub returns-then-not-all_zero : goal.returns-then-not-all_zero
returns-then-not-all_zero c =
    by-rest c.args.file c.args.version c.args.self.oldest c.leading-found.result.count c.args.self.records.now c.args.self.whole c.leading-found.ensures.0 (sym (rest-is (goal.at.returns-then-not-all_zero c).After-all_zero) ∙ c.if-not-all_zero.true)

pub tails_zero-requires : goal.tails_zero-requires
tails_zero-requires c =
    let rest = sym (rest-is (goal.at.tails_zero-requires c).After-all_zero) ∙ c.if-not-all_zero.false in
    (c.distances-table.ensures, c.leading-found.ensures.0.few, rest, short-all c.args.file c.leading-found.result.count c.args.self.records.now c.leading-found.ensures.0.each c.args.self.whole rest)

pub returns : goal.returns
returns c =
    c.tails_zero.ensures ∙ by-tails c.args.file c.args.version c.args.self.oldest c.leading-found.result.count c.args.self.records.now c.args.self.whole c.leading-found.ensures.0
    (sym c.chained.ensures ∙ c.if-not-chained.false) (omega (arith, c.if-version-k.false)) (sym (rest-is (goal.at.returns c).After-all_zero) ∙ c.if-not-all_zero.false)
