-- The kinds as numbers.
use Rattle.std.specs.Prelude.{◌≡◌, ℕ, ◌<◌, Result, MatchResult}
use Rattle.quorums.specs.declared.Kind.{Kind}
use Rattle.quorums.specs.declared.Kind.TheVariants.{Read, Write}
use Rattle.quorums.specs.declared.UnknownKind.{UnknownKind}

-- 0 for a read, 1 for a write
abbrev pub code_of : Kind → ℕ
code_of Read = 0
code_of Write = 1

-- the kind with this number; or the number itself, where no kind has it
abbrev pub Decodes : ℕ → Result Kind UnknownKind → Type 0
Decodes code r = MatchResult r (λ kind. code_of kind ≡ code) (λ e. (e.0 ≡ code) × (1 < code))
