use Rattle.std.proofs.Common.{arith, inl, inr}
use Rattle.telling.specs.Text.{in_bytes, spaces, padded}
use Rattle.telling.specs.Notices.{no_reason, reasons, reason}
use Rattle.wordings.proofs.ArmLaws.{reason-by, other-reason}
use Rattle.wordings.proofs.wording.Goals as goal
use Rattle.wordings.proofs.wording.Goals.{in-0-1, in_default-1}

pub returns-in-1 : goal.returns-in-1
unfolding padded spaces in_bytes reason reasons no_reason
returns-in-1 c = reason-by c.in-1.is

pub returns-in-2 : goal.returns-in-2
unfolding padded spaces in_bytes reason reasons no_reason
returns-in-2 c = reason-by c.in-2.is

pub returns-in-3 : goal.returns-in-3
unfolding padded spaces in_bytes reason reasons no_reason
returns-in-3 c = reason-by c.in-3.is

pub returns-in-4 : goal.returns-in-4
unfolding padded spaces in_bytes reason reasons no_reason
returns-in-4 c = reason-by c.in-4.is

pub returns-in-5 : goal.returns-in-5
unfolding padded spaces in_bytes reason reasons no_reason
returns-in-5 c = reason-by c.in-5.is

pub returns-in-6 : goal.returns-in-6
unfolding padded spaces in_bytes reason reasons no_reason
returns-in-6 c = reason-by c.in-6.is

pub returns-in-7 : goal.returns-in-7
unfolding padded spaces in_bytes reason reasons no_reason
returns-in-7 c = reason-by c.in-7.is

pub returns-in-8 : goal.returns-in-8
unfolding padded spaces in_bytes reason reasons no_reason
returns-in-8 c = reason-by c.in-8.is

pub returns-in-9 : goal.returns-in-9
unfolding padded spaces in_bytes reason reasons no_reason
returns-in-9 c = reason-by c.in-9.is

pub returns-in-10 : goal.returns-in-10
unfolding padded spaces in_bytes reason reasons no_reason
returns-in-10 c = reason-by c.in-10.is

pub returns-in-11 : goal.returns-in-11
unfolding padded spaces in_bytes reason reasons no_reason
returns-in-11 c = reason-by c.in-11.is

pub returns-in-12 : goal.returns-in-12
unfolding padded spaces in_bytes reason reasons no_reason
returns-in-12 c = reason-by c.in-12.is

pub returns-in-13 : goal.returns-in-13
unfolding padded spaces in_bytes reason reasons no_reason
returns-in-13 c = reason-by c.in-13.is

pub returns-in-14 : goal.returns-in-14
unfolding padded spaces in_bytes reason reasons no_reason
returns-in-14 c = reason-by c.in-14.is

pub returns-in-15 : goal.returns-in-15
unfolding padded spaces in_bytes reason reasons no_reason
returns-in-15 c = reason-by c.in-15.is

pub returns-in-16 : goal.returns-in-16
unfolding padded spaces in_bytes reason reasons no_reason
returns-in-16 c = reason-by c.in-16.is

pub returns-in-17 : goal.returns-in-17
unfolding padded spaces in_bytes reason reasons no_reason
returns-in-17 c = reason-by c.in-17.is

pub returns-in-18 : goal.returns-in-18
unfolding padded spaces in_bytes reason reasons no_reason
returns-in-18 c = reason-by c.in-18.is

pub returns-in-19 : goal.returns-in-19
unfolding padded spaces in_bytes reason reasons no_reason
returns-in-19 c = reason-by c.in-19.is

pub returns-in-20 : goal.returns-in-20
unfolding padded spaces in_bytes reason reasons no_reason
returns-in-20 c = reason-by c.in-20.is

pub returns-in-0 : goal.returns-in-0
unfolding padded spaces in_bytes no_reason
returns-in-0 c = other-reason c.args.number (elim c.in-0-1.branch [ in-0-1 w ↦ inl (omega arith) | in_default-1 w ↦ inr (omega arith) ])
