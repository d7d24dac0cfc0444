use Rattle.std.proofs.Common.{arith, inl, inr}
use Rattle.telling.specs.Text.{in_bytes, spaces, padded}
use Rattle.telling.specs.Notices.{words, word}
use Rattle.wordings.proofs.ArmLaws.{word-by, other_word}
use Rattle.wordings.proofs.call_word.Goals as goal
use Rattle.wordings.proofs.call_word.Goals.{in-0-1, in_default-1}

pub returns-in-1 : goal.returns-in-1
unfolding padded spaces in_bytes word words
returns-in-1 c = word-by c.in-1.is

pub returns-in-2 : goal.returns-in-2
unfolding padded spaces in_bytes word words
returns-in-2 c = word-by c.in-2.is

pub returns-in-3 : goal.returns-in-3
unfolding padded spaces in_bytes word words
returns-in-3 c = word-by c.in-3.is

pub returns-in-4 : goal.returns-in-4
unfolding padded spaces in_bytes word words
returns-in-4 c = word-by c.in-4.is

pub returns-in-5 : goal.returns-in-5
unfolding padded spaces in_bytes word words
returns-in-5 c = word-by c.in-5.is

pub returns-in-6 : goal.returns-in-6
unfolding padded spaces in_bytes word words
returns-in-6 c = word-by c.in-6.is

pub returns-in-7 : goal.returns-in-7
unfolding padded spaces in_bytes word words
returns-in-7 c = word-by c.in-7.is

pub returns-in-8 : goal.returns-in-8
unfolding padded spaces in_bytes word words
returns-in-8 c = word-by c.in-8.is

pub returns-in-9 : goal.returns-in-9
unfolding padded spaces in_bytes word words
returns-in-9 c = word-by c.in-9.is

pub returns-in-10 : goal.returns-in-10
unfolding padded spaces in_bytes word words
returns-in-10 c = word-by c.in-10.is

pub returns-in-0 : goal.returns-in-0
unfolding padded spaces in_bytes word words
returns-in-0 c = other_word c.args.call (elim c.in-0-1.branch [ in-0-1 w ↦ inl (omega arith) | in_default-1 w ↦ inr (omega arith) ])
