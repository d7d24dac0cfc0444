-- "The plain book": fed each call's arguments and whether it was done. Nothing comes from the table.
use Rattle.std.specs.Prelude.{Bool, true, false, not, cond, ◌&&◌, ◌||◌, List, [], ◌∷◌, ◌++◌, ℕ, suc, ◌+◌, ◌-◌, eqb, length, get_or}
use Rattle.sets.specs.Upto.{every, some}
use Rattle.sets.specs.Sets.{has, cut_to}
use Rattle.quorums.specs.declared.Kind.{Kind}
use Rattle.quorums.specs.declared.Kind.TheVariants.{Write}
use Rattle.octets.specs.Bytes.{put, zeros}
use Rattle.fields.specs.declared.Laid.{Laid}
use Rattle.fields.specs.Layout.{no_list, is_tall}
use Rattle.linking.specs.Linking.{by_name}
use Rattle.counties.specs.Counties.{Frame, county_at, list_quorum, list_choice}
use Rattle.counties.specs.Marks.{laid_now}
use Rattle.protocol.specs.Calls.{Founding, Call, founding, join, read, write, send, check, carry, names_in, founded_list}

pub record Book : Type 0 where
  -- the names of rows 1 upward, from the arguments of the founding and of joinings
  pub names : List ℕ
  -- and their counties
  pub counties : List ℕ
  -- "a file of L zero bytes", and how many writes were done
  pub file : List ℕ
  pub writes : ℕ
  -- the list in force, and each row's own list
  pub in_force : Laid
  pub own : ℕ → Laid
  -- row i has done write k, the first being write 1
  pub has_write : ℕ → ℕ → Bool

unfoldable pub name_in : Book → ℕ → ℕ
name_in b i = get_or b.names (i - 1) 0

unfoldable pub county_in : Book → ℕ → ℕ
county_in b = county_at b.counties

-- the rows in the order of their names, and their counties
unfoldable pub frame : Book → Frame
frame b = record { order = by_name (name_in b) (length b.names); county = county_in b }

-- "A done founding opens it with a file of L zero bytes and no writes. The list in force, and each row's own list, is all used rows."
unfoldable pub opened : Founding → Book
opened a =
    let names = names_in a.names in
    record {
      names = names;
      counties = a.counties;
      file = zeros a.file_length;
      writes = 0;
      in_force = founded_list a.choice a.counties (length names);
      own = λ i. founded_list a.choice a.counties (length names);
      has_write = λ i k. false;
    }

-- row i has every done write
unfoldable pub has_all : Book → ℕ → Bool
has_all b i = every b.writes (b.has_write i)

-- s holds a quorum of the list in force
unfoldable pub holds_quorum : Book → Kind → (ℕ → Bool) → Bool
holds_quorum b kind s = list_quorum kind (frame b) b.in_force s

-- a row of s has every done write
unfoldable pub some_has_all : Book → (ℕ → Bool) → Bool
some_has_all b s = some 64 (λ i. s i && has_all b i)

-- "P is c's own choice over c's own list in the book, cut down to R. If P holds a write quorum of the list in force and a row of P has every
-- earlier done write, the write's set is P, otherwise R."
unfoldable pub write_set : Book → ℕ → ℕ → ℕ → Bool
write_set b c r =
    let tried = cut_to (list_choice Write (frame b) (b.own c) (name_in b c)) (has r) in
    cond (holds_quorum b Write tried && some_has_all b tried) tried (has r)

-- "Those rows of its set that have every earlier done write take it. The patch is laid over the file."
unfoldable pub written : Book → (ℕ → Bool) → ℕ → List ℕ → Book
written b s offset patch = record {
  names = b.names;
  counties = b.counties;
  file = put offset patch b.file;
  writes = b.writes + 1;
  in_force = b.in_force;
  own = b.own;
  has_write = λ i k. b.has_write i k || (s i && has_all b i && eqb k (b.writes + 1));
}

-- "t has, besides its own, all that f has"
unfoldable pub passed_on : Book → ℕ → ℕ → Book
passed_on b f t = record {
  names = b.names;
  counties = b.counties;
  file = b.file;
  writes = b.writes;
  in_force = b.in_force;
  own = b.own;
  has_write = λ i k. b.has_write i k || (eqb i t && b.has_write f k);
}

-- "R becomes the list in force, and the own list of each row of R": tall where the list in force was
unfoldable pub agreed : Book → ℕ → Book
agreed b r = record {
  names = b.names;
  counties = b.counties;
  file = b.file;
  writes = b.writes;
  in_force = laid_now (is_tall b.in_force) (county_in b) r;
  own = λ i. cond (has r i) (laid_now (is_tall b.in_force) (county_in b) r) (b.own i);
  has_write = b.has_write;
}

-- "A list in force keeps its grid": where R is that list, nothing changes
unfoldable pub checked : Book → ℕ → Book
checked b r = cond (eqb r b.in_force.members) b (agreed b r)

-- "the book gives the new row an empty own list"; it has no write
unfoldable pub admitted : Book → ℕ → ℕ → Book
admitted b x y =
    let new = suc (length b.names) in
    record {
      names = b.names ++ (x ∷ []);
      counties = b.counties ++ (y ∷ []);
      file = b.file;
      writes = b.writes;
      in_force = b.in_force;
      own = λ i. cond (eqb i new) no_list (b.own i);
      has_write = λ i k. b.has_write i k && not (eqb i new);
    }

-- the book of file q after a call, and whether that was done; "A read, or any refused call: nothing.", and so a write or a send of another file. Lists
-- are the same in the books of all files
unfoldable pub entered : ℕ → Book → Call → Bool → Book
entered q b k false = b
entered q b (founding a) true = opened a
entered q b (join a) true = admitted b a.name a.county
entered q b (read a) true = b
entered q b (write a) true = cond (eqb a.file q) (written b (write_set b a.c a.r) a.offset a.patch) b
entered q b (send a) true = cond (eqb a.file q) (passed_on b a.f a.t) b
entered q b (check a) true = checked b a.r
-- a move leaves the table as it is
entered q b (carry a) true = b
