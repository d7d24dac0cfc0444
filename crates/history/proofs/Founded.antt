-- A done founding opens the book that its table stands against.
use mathlib.Core.Path.{◌≡◌, refl, sym, ◌∙◌, ap}
use mathlib.Core.Bool.{false}
use mathlib.Core.List.{List}
use Prim.Native.Nat.{ℕ, ◌-◌, ◌^◌}
use native.Mathlib.Omega.{arith}
use lib.Dec.{eqb}
use lib.Pow.{ones_lt}
use lib.ListN.{length}
use borrow.Author.Tests.{lt-leb}
use Rattle.sets.specs.Upto.{Within}
use Rattle.bools.proofs.BoolLaws.{clash}
use Rattle.sets.proofs.SetLaws.{has_within}
use Rattle.quorums.specs.declared.Kind.TheVariants.{Read}
use Rattle.fields.specs.Layout.{get, epoch, list, copy_bytes, epoch_of, list_of, stale_of, version_of, contents_of}
use Rattle.counties.specs.Marks.{laid_now}
use Rattle.protocol.specs.Polls.{polled}
use Rattle.octets.specs.Bytes.{zeros}
use Rattle.octets.proofs.ByteLaws.{length-zeros}
use Rattle.protocol.specs.Calls.{Founding, names_in, founded_list, founded}
use Rattle.protocol.proofs.ListLaws.{inhabited}
use Rattle.fields.proofs.FieldLaws.{BlankCopy}
use Rattle.window.specs.Windows.{emptied}
use Rattle.window.proofs.CopyLaws.{window-blank}
use Rattle.history.specs.Claims.{kept_of}
use Rattle.protocol.proofs.FoundedLaws.{Founds, founded-used, founded-file, founded-files, founded-copies, founded-name, founded-county, founded-formed, at_row, row_list, zero-epoch}
use Rattle.history.specs.Book.{frame, name_in, county_in, opened}
use Rattle.history.proofs.Invariant.{aim, Inv}
use Rattle.history.proofs.State.{whole, State}

module _ (a : Founding) (f : Founds a) where
  abbrev names : List ℕ
  names = names_in a.names

  t : List ℕ
  t = founded a.choice a.capacity a.files a.file_length names a.counties

  -- each row: epoch, version and desired version 0, no mark, all rows its list, zero bytes
  epoch-zero : (i : ℕ) → Within (length names) i → epoch_of t i ≡ 0
  unfolding epoch_of t
  epoch-zero = at_row a f (λ i r. get epoch r ≡ 0) (zero-epoch a f)

  list_all : (i : ℕ) → Within (length names) i → list_of t i ≡ founded_list a.choice a.counties (length names)
  unfolding list_of t
  list_all = at_row a f (λ i r. list r ≡ founded_list a.choice a.counties (length names)) (row_list a f)

  module _ (q : ℕ) (v : Within a.files q) where
    blank : (i : ℕ) → Within (length names) i → BlankCopy a.file_length (copy_bytes t q i)
    unfolding t
    blank i u = founded-copies a f i q u v

    version-zero : (i : ℕ) → Within (length names) i → version_of t q i ≡ 0
    unfolding version_of
    version-zero i u = (blank i u).version

    no-mark : (i : ℕ) → Within (length names) i → stale_of t q i ≡ false
    unfolding stale_of
    no-mark i u = ap (λ (m : ℕ). eqb m 1) (blank i u).mark

    zero-contents : (i : ℕ) → Within (length names) i → contents_of t q i ≡ zeros a.file_length
    unfolding contents_of
    zero-contents i u = (blank i u).contents

    start : Inv (length names) (whole t q) (contents_of t q) (opened a) 0
    unfolding opened aim whole polled founded_list laid_now
    start = record {
      epochs = record {
        below = λ i u. rw (epoch-zero i u) (omega arith);
        inside = λ i u m. (epoch-zero i u, list_all i u);
        forced = λ i u l q. list_all i u;
        bare = λ i u l. epoch-zero i u;
        owned = λ i u. sym (list_all i u);
        bound = ones_lt (length names);
        dead = λ i u l. absurd (omega arith);
      };
      versions = λ i u. record {
        past = rw (version-zero i u) (omega arith);
        wants = λ z. absurd (clash (sym (no-mark i u) ∙ z));
        same = λ z. zero-contents i u;
        kept = λ k h. rw (version-zero i u) (sym (lt-leb k 0 (omega arith)));
      };
      live = λ s h.
          let w = inhabited (frame (opened a)) (founded_list a.choice a.counties (length names)) Read s h in
          let u = has_within (length names) (2 ^ length names - 1) w.0 (ones_lt (length names)) w.1 in
          (w.0, u, w.2, rw (no-mark w.0 u) (version-zero w.0 u));
    }

    pub founded-state : State q (founded a.choice a.capacity a.files a.file_length (names_in a.names) a.counties) (opened a) 0
    unfolding opened name_in county_in t kept_of contents_of
    founded-state = record {
      group = rw (founded-files a f) v;
      formed = founded-formed a f;
      used = founded-used a f;
      names = rw (founded-used a f) (founded-name a f);
      places = founded-used a f ∙ sym f.places;
      counties = λ i u. ap (λ (g : ℕ → ℕ). g i) (founded-county a f);
      blank = λ z. ap zeros (sym (length-zeros a.file_length));
      file = length-zeros a.file_length ∙ sym (founded-file a f);
      inv = rw (founded-used a f) start;
      trail = record {
        kept = λ v. record { contents = zeros a.file_length; window = emptied };
        grown = rw (founded-file a f) (record { first = refl; grows = λ v h. absurd (omega arith) });
        held = rw (founded-used a f) (λ i u. λ j. record { contents = (blank i u).contents j; window = window-blank a.file_length (copy_bytes t q i) (blank i u) j });
      };
    }
