-- A relay that ships the rows of R back leaves the very bytes of the one table.
use mathlib.Core.Path.{◌≡◌, refl, sym, ◌∙◌, ap}
use mathlib.Core.Bool.{Bool, true, false, cond}
use mathlib.Core.List.{List, [], ◌∷◌}
use Prim.Native.Nat.{ℕ, zero, suc}
use native.Mathlib.Omega.{arith}
use lib.ListN.{length}
use Rattle.sets.specs.Upto.{Within}
use Rattle.sets.specs.Sets.{has}
use Rattle.blocks.specs.Blocks.{block}
use Rattle.blocks.proofs.BlockLaws.{Altered, blocks-changed, alike}
use Rattle.octets.specs.Bytes.{part}
use Rattle.fields.specs.Layout.{used_of, row_length, rows_end, row_bytes, with_rows}
use Rattle.table.specs.WellFormed.{well_formed}
use Rattle.table.proofs.FormLaws.{formed, well-formed-of, rows-room}
use Rattle.table.proofs.TableLaws.{Like, like-length, like-end, Roomy, row-long}
use Rattle.protocol.specs.Calls.{Call, founding, join, read, write, send, check, carry, outcome}
use Rattle.protocol.specs.Claims.{Answering, by_read, by_write, by_send, by_check, OnlyRowsOf, AltersOnlyAnswered}
use Rattle.protocol.proofs.QuestionLaws.{when-refused}
use Rattle.protocol.proofs.Unanswered.{first_part, drop_more}
use Rattle.protocol.proofs.Claimed.{only_none, alters-only-answered}
use Rattle.history.specs.Book.{Book}
use Rattle.history.specs.Claims.{table_after}
use Rattle.history.proofs.Answers.{Group, first-file}
use Rattle.history.proofs.Theorems.{next, reached}
use Rattle.relaying.specs.Relaying.{blanked, BlankedAnswers}
use Rattle.relaying.specs.Shipping.{shipped, relayed_by, relayed, relayed_after, RelaySees}
use Rattle.relaying.proofs.RelayLaws.{blanked-answers}

-- ---- v is t but for rows of R, and u has these
module _ (r : ℕ) (t u v : List ℕ) (room : Roomy t (used_of t)) (only : OnlyRowsOf r t v) (same : (i : ℕ) → has r i ≡ true → row_bytes v i ≡ row_bytes u i) where
  like : Like t v
  unfolding part
  like = record {
    long = only.bytes;
    header = λ a n h. sym (first_part 16 a n v h) ∙ ap (part a n) only.header ∙ first_part 16 a n t h;
  }

  row : (i : ℕ) → Within (used_of t) i → (b : Bool) → has r i ≡ b → row_bytes v i ≡ cond b (row_bytes u i) (row_bytes t i)
  row i w true m = same i m
  row i w false m = only.rows i w m

  altered : Altered 16 (row_length t) t v (used_of t) (has r) (λ i x. row_bytes u i)
  unfolding row_bytes rows_end
  altered = record {
    long = only.bytes;
    head = like.header;
    blocks = λ i w. ap (λ (n : ℕ). block 16 n i v) (sym (like-length like)) ∙ row i w (has r i) refl;
    tail = λ b h. drop_more (rows_end t (used_of t)) b v t h only.rest;
  }

  long : (i : ℕ) → Within (used_of t) i → has r i ≡ true → length (row_bytes u i) ≡ row_length t
  long i w m = ap length (sym (same i m)) ∙ row-long v (used_of t) (omega (arith, like-end like (used_of t), only.bytes)) i w ∙ like-length like

  pub shipped-is : shipped r u t ≡ v
  unfolding shipped with_rows rows_end
  shipped-is = alike 16 (row_length t) (used_of t) (blocks-changed 16 (row_length t) t (has r) (λ i x. row_bytes u i) (used_of t) room long) altered

-- ---- one call on a well-formed table
module _ (t : List ℕ) (e : well_formed t ≡ true) where
  pub only-answered : (k : Call) (r : ℕ) → Answering k r → OnlyRowsOf r t (outcome t k).table
  unfolding AltersOnlyAnswered
  only-answered k r a = go (outcome t k).refusal refl
    where
      go : (n : ℕ) → (outcome t k).refusal ≡ n → OnlyRowsOf r t (outcome t k).table
      go zero q = alters-only-answered t k r a q
      go (suc n) q = rw (when-refused t k (λ z. omega arith)).1 (only_none r t)

  by-same : (k : Call) (r : ℕ) → Answering k r → relayed_by r t k ≡ outcome t k
  unfolding relayed_by BlankedAnswers
  by-same k r a =
      let s = blanked-answers t k r a e in
      λ j. record {
        refusal = sym s.refusal j;
        value = sym s.value j;
        table = shipped-is r t (outcome (blanked r t) k).table (outcome t k).table (rows-room t (formed t e)) (only-answered k r a) s.rows j;
        buffer = sym s.buffer j;
        called = sym s.called j;
        sheet = sym s.sheet j;
      }

  relayed-same : (k : Call) → relayed t k ≡ outcome t k
  unfolding relayed
  relayed-same (founding a) = refl
  relayed-same (join a) = refl
  relayed-same (read a) = by-same (read a) a.r by_read
  relayed-same (write a) = by-same (write a) a.r by_write
  relayed-same (send a) = by-same (send a) a.r by_send
  relayed-same (check a) = by-same (check a) a.r by_check
  relayed-same (carry a) = refl

-- ---- a list of calls
next-same : (t : List ℕ) (b : ℕ → Book) (e : ℕ) → Group t b e → (ks : List Call) (k : Call) → relayed (relayed_after t ks) k ≡ outcome (table_after t ks) k
unfolding relayed_after table_after
next-same t b e G [] k = relayed-same t (well-formed-of t (first-file G).formed) k
next-same t b e G (j ∷ ks) k =
    let n = next t b e G j in
    rw (relayed-same t (well-formed-of t (first-file G).formed) j) (next-same (outcome t j).table _ n.0 n.1 ks k)

pub relay-sees : RelaySees
unfolding RelaySees
relay-sees t b x = let l = reached t b x in next-same t b l.0 l.1
