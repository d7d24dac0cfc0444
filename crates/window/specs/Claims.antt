-- What is claimed of windows.
use Rattle.std.specs.Prelude.{◌≡◌, true, [], ◌∷◌, ◌++◌, ℕ, suc, ◌+◌, ◌-◌, ◌≤◌, ◌<◌, length, drop}
use Rattle.octets.specs.Bytes.{zeros}
use Rattle.window.specs.Windows.{Window, Patch, Kept, patches, window_right, emptied, added, patched, sent}

-- a window has 16 records of 36 bytes
abbrev pub Whole : Window → Type 0
Whole w = length w.records ≡ 576

-- a patch of some bytes within a file
pub record Fits (file : ℕ) (p : Patch) : Type 0 where
  pub some : 1 ≤ length p.bytes
  pub inside : p.offset + length p.bytes ≤ file

-- "a window on its latest 16 patches of at most 32 bytes": of those before the last 15 at most, then the new one
unfoldable pub LatestKept : Type 0
LatestKept = (file v : ℕ) → file < 65_536 → (w : Window) → Whole w → window_right file v w ≡ true → (p : Patch) → Fits file p → length p.bytes ≤ 32
    → patches (added p w) ≡ drop (length (patches w) - 15) (patches w) ++ (p ∷ [])

-- a write, which adds one to the version, keeps a right window right
unfoldable pub StaysRight : Type 0
StaysRight = (file v : ℕ) → file < 65_536 → (w : Window) → Whole w → window_right file v w ≡ true → (p : Patch) → Fits file p
    → Whole (added p w) × (window_right file (suc v) (added p w) ≡ true)

-- what a row of each version up to n keeps, from a founding on: one patch from version to version
pub record Grown (file n : ℕ) (kept : ℕ → Kept) : Type 0 where
  pub first : kept 0 ≡ record { contents = zeros file; window = emptied }
  pub grows : (v : ℕ) → v < n → (p : Patch) × Fits file p × (kept (suc v) ≡ patched p (kept v))

-- "In a founded history, contents .. come out as from a whole send": from version v to a row of version u
unfoldable pub SentIsWhole : Type 0
SentIsWhole = (file n : ℕ) → file < 65_536 → (kept : ℕ → Kept) → Grown file n kept → (u v : ℕ) → u ≤ v → v ≤ n
    → sent (v - u) (kept v).window (kept v).contents (kept u).contents ≡ (kept v).contents
