use mathlib.Core.Path.{refl, sym, ◌∙◌}
use Rattle.table.proofs.WellFormedLaws.{sized, long}
use Rattle.grouping.proofs.FrameLaws.{frame-of, listed-of}
use Rattle.protocol.specs.Calls.{Reading, lent}
use Rattle.reads.proofs.ReadLaws.{read_one}
use Rattle.reads.proofs.read.Goals as goal

pub returns-then-not-ordered : goal.returns-then-not-ordered
unfolding lent
returns-then-not-ordered c =
    let a = c.args in
    let call : Reading = record { c = a.c; r = a.r; offset = a.offset; count = a.count; buffer = a.buffer.now; called = a.called.now; file = a.file } in
    let no = read_one a.t.now call (sym c.ordered.ensures.0 ∙ c.if-not-ordered.true) in
    (no.0.result, no.0.table, no.0.buffer, c.note.ensures ∙ no.1)

pub used-requires : goal.used-requires
used-requires c = long (sized (c.ordered.ensures.1 c.if-not-ordered.false).formed)

pub new-frame-requires : goal.new-frame-requires
new-frame-requires c = let f = c.ordered.ensures.1 c.if-not-ordered.false in (listed-of f c.used.ensures, f.grouped.apart)

pub answer-a-requires : goal.answer-a-requires
answer-a-requires c = rw c.new-frame.ensures (frame-of (c.ordered.ensures.1 c.if-not-ordered.false) c.used.ensures)

pub returns : goal.returns
returns c =
    let o = c.answer-a.ensures c.args.called.now refl in
    (o.0, o.1, o.2, c.note-2.ensures ∙ o.3)
