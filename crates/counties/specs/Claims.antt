-- What is claimed of lists on two levels; the proofs are in proofs/.
use Rattle.std.specs.Prelude.{◌≡◌, Bool, true, false, List, ℕ, ◌≤◌, eqb, length}
use Rattle.sets.specs.Upto.{Within, count}
use Rattle.sets.specs.Sets.{has}
use Rattle.quorums.specs.declared.Kind.{Kind}
use Rattle.quorums.specs.declared.Kind.TheVariants.{Read, Write}
use Rattle.grid.specs.Sizes.{mark_fits, new_mark}
use Rattle.fields.specs.declared.Laid.{Laid}
use Rattle.fields.specs.Layout.{is_empty, is_tall}
use Rattle.counties.specs.Levels.{seats, level, level_choice}
use Rattle.counties.specs.Counties.{Frame, several, levels, levels_choice, list_quorum, list_choice}
use Rattle.counties.specs.Marks.{laid_now, mark_right, tall_table, tall_right}

-- ---- quorums
-- the four laws by which everything above knows quorums: `holds` is any way of holding one over those that pass p
pub record Quorums (p : ℕ → Bool) (holds : Kind → (ℕ → Bool) → Bool) : Type 0 where
  -- "a write quorum shares a machine with each read or write quorum"
  pub shared : (kind : Kind) (s t : ℕ → Bool) → holds kind s ≡ true → holds Write t ≡ true → (i : ℕ) × (p i ≡ true) × (s i ≡ true) × (t i ≡ true)
  -- a quorum has a member
  pub inhabited : (kind : Kind) (s : ℕ → Bool) → holds kind s ≡ true → (i : ℕ) × (p i ≡ true) × (s i ≡ true)
  -- any quorum is a read quorum
  pub reads : (kind : Kind) (s : ℕ → Bool) → holds kind s ≡ true → holds Read s ≡ true
  -- a larger set holds what a smaller one holds
  pub grows : (kind : Kind) (s t : ℕ → Bool) → ((i : ℕ) → s i ≡ true → t i ≡ true) → holds kind s ≡ true → holds kind t ≡ true

-- a level has them, whatever it is laid of, rows or counties
unfoldable pub LevelQuorums : Type 0
LevelQuorums = (mark : ℕ) (order : List ℕ) (p : ℕ → Bool) → Quorums p (λ kind s. level kind mark order p s)

-- and so has a list
unfoldable pub ListQuorums : Type 0
ListQuorums = (f : Frame) (l : Laid) → Quorums (has l.members) (λ kind s. list_quorum kind f l s)

-- "by one fact for both levels"
unfoldable pub ByOneFact : Type 0
ByOneFact = LevelQuorums → ListQuorums

-- the reason, of any quorums: where those above have the laws, and those of each part below, the parts in which a set holds one make quorums that have them
unfoldable pub QuorumsOver : Type 0
QuorumsOver = (up : ℕ → Bool) (above : Kind → (ℕ → Bool) → Bool) (p : ℕ → Bool) (part : ℕ → ℕ → Bool) (below : ℕ → Kind → (ℕ → Bool) → Bool)
    → Quorums up above → ((j : ℕ) → Quorums (part j) (below j)) → ((j i : ℕ) → part j i ≡ true → p i ≡ true)
    → Quorums p (λ kind s. above kind (λ j. below j kind s))

-- ---- choices
-- every part of those that pass p has as many seats as members
unfoldable pub PartsSeated : List ℕ → (ℕ → Bool) → Type 0
PartsSeated order p = (q : ℕ → Bool) → ((i : ℕ) → q i ≡ true → p i ≡ true) → length (seats order q) ≡ count 64 q

-- "each row gets a county, 1 to 8": all that pass p have one
unfoldable pub Placed : (ℕ → ℕ) → (ℕ → Bool) → Type 0
Placed county p = (i : ℕ) → p i ≡ true → Within 8 (county i)

-- a choice on both levels holds a quorum of its kind; and so do all of them
unfoldable pub ChoiceHolds : Type 0
ChoiceHolds = (f : Frame) (p : ℕ → Bool) → PartsSeated f.order p → Placed f.county p → 1 ≤ count 64 p
    → (kind : Kind) (mark a : ℕ) → (levels kind mark f p (levels_choice kind mark f p a) ≡ true) × (levels kind mark f p p ≡ true)

-- who is chosen passes
unfoldable pub ChosenPass : Type 0
ChosenPass = (kind : Kind) (mark : ℕ) (f : Frame) (p : ℕ → Bool) (a i : ℕ) → levels_choice kind mark f p a i ≡ true → p i ≡ true

-- ---- one county
-- "lists within one county": all that pass p are in it
pub record InOne (county : ℕ → ℕ) (p : ℕ → Bool) : Type 0 where
  pub which : ℕ
  pub placed : Within 8 which
  pub there : (i : ℕ) → p i ≡ true → county i ≡ which

-- "A table of one county gives its former results": quorum and choice are those of one level, for every mark
pub record Former (kind : Kind) (mark : ℕ) (f : Frame) (p : ℕ → Bool) : Type 0 where
  pub quorum : (s : ℕ → Bool) → levels kind mark f p s ≡ level kind mark f.order p s
  pub choice : (a i : ℕ) → levels_choice kind mark f p a i ≡ level_choice kind mark f.order p a i

unfoldable pub OneCounty : Type 0
OneCounty = (f : Frame) (p : ℕ → Bool) → InOne f.county p → (kind : Kind) (mark : ℕ) → Former kind mark f p

-- question 1 takes the marks that it took, and a list is laid as it was
pub record FormerMarks (county : ℕ → ℕ) (l : Laid) : Type 0 where
  pub right : mark_right county l ≡ mark_fits l.mark (count 64 (has l.members))
  pub laid : (tall : Bool) → laid_now tall county l.members ≡ record { members = l.members; mark = new_mark tall (count 64 (has l.members)) }

unfoldable pub OneCountyMarks : Type 0
OneCountyMarks = (county : ℕ → ℕ) (l : Laid) → InOne county (has l.members) → FormerMarks county l

-- ---- two frames that say the same of the members: the order of each part of them, and their counties
pub record Alike (f g : Frame) (p : ℕ → Bool) : Type 0 where
  pub orders : (q : ℕ → Bool) → ((i : ℕ) → q i ≡ true → p i ≡ true) → seats f.order q ≡ seats g.order q
  pub counties : (i : ℕ) → p i ≡ true → f.county i ≡ g.county i

-- give a list the same quorums and choices, and its members the same mark
pub record SameBy (f g : Frame) (l : Laid) : Type 0 where
  pub quorum : (kind : Kind) (s : ℕ → Bool) → list_quorum kind f l s ≡ list_quorum kind g l s
  pub choice : (kind : Kind) (a i : ℕ) → list_choice kind f l a i ≡ list_choice kind g l a i
  pub laid : (tall : Bool) → laid_now tall f.county l.members ≡ laid_now tall g.county l.members

unfoldable pub AlikeSame : Type 0
AlikeSame = (f g : Frame) (l : Laid) → Alike f g (has l.members) → SameBy f g l

-- ---- "A list of more than one county has grid mark 3 in a wide table, where no other list has it, and 2 in a tall one"
pub record MarksBy (county : ℕ → ℕ) (n : ℕ) (lists : ℕ → Laid) (i : ℕ) : Type 0 where
  pub wide : tall_table n lists ≡ false → eqb (lists i).mark 3 ≡ several county (has (lists i).members)
  pub tall : tall_table n lists ≡ true → is_empty (lists i) ≡ false → (lists i).mark ≡ 2

-- by what question 1 asks of the lists of the rows 1 to n
unfoldable pub RuleOfMarks : Type 0
RuleOfMarks = (county : ℕ → ℕ) (n : ℕ) (lists : ℕ → Laid) → ((i : ℕ) → Within n i → mark_right county (lists i) ≡ true) → tall_right n lists ≡ true
    → (i : ℕ) → Within n i → MarksBy county n lists i

-- a list laid now, of some rows, is right, and of the shape of its table
pub record LaidRight (tall : Bool) (county : ℕ → ℕ) (r : ℕ) : Type 0 where
  pub right : 1 ≤ count 64 (has r) → mark_right county (laid_now tall county r) ≡ true
  pub shape : is_tall (laid_now tall county r) ≡ tall

unfoldable pub LaidMarks : Type 0
LaidMarks = (tall : Bool) (county : ℕ → ℕ) (r : ℕ) → LaidRight tall county r
