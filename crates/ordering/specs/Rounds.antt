-- "A round entered together": what a list of orders does under one answering set, with one sheet.
use Rattle.std.specs.Prelude.{Bool, true, false, cond, List, [], ◌∷◌, ℕ, zero, suc, ◌/◌, ◌%◌, eqb, length, take, drop}
use Rattle.octets.specs.Bytes.{number, part}
use Rattle.fields.specs.Layout.{used_of}
use Rattle.table.specs.WellFormed.{between, only_rows, well_formed}
use Rattle.sheet.specs.Sheet.{sheet_right}
use Rattle.asking.specs.Asking.{Question, first_no}
use Rattle.protocol.specs.Calls.{Writing, write, outcome}
use Rattle.ordering.specs.declared.Order.{Order}

-- "one to eight bytes": an order of another length has no patch, so that it "is refused at question 4"
unfoldable pub patch_of : Order → List ℕ
patch_of o = cond (between 1 o.length 8) (take o.length o.bytes) []

-- the write that an order stands for, by answering set R and with the sheet s. The size of the set called is told of single writes only: here it goes into
-- a byte that nobody sees
unfoldable pub writing : ℕ → List ℕ → Order → Writing
writing r s o = record {
  c = o.coordinator;
  r = r;
  offset = o.offset;
  patch = patch_of o;
  called = 0 ∷ [];
  file = o.file;
  sheet = s;
  club = o.club;
}

-- what a round leaves: refusal number (0: done), value, and the bytes of the table and of the sheet
pub record Round : Type 0 where
  pub refusal : ℕ
  pub value : ℕ
  pub table : List ℕ
  pub sheet : List ℕ

-- the orders after n done ones, on the table t and the sheet s that those left: "the writes made singly in that order, up to the first refusal"; "a 65th
-- order, after the 64, by 4 unread"; "The result holds that refusal and, as value, the number done; those stay"
unfoldable pub round_from : List ℕ → List ℕ → ℕ → ℕ → List Order → Round
round_from t s r n [] = record { refusal = 0; value = n; table = t; sheet = s }
round_from t s r n (o ∷ os) =
    let x = outcome t (write (writing r s o)) in
    cond (eqb n 64)
    (record { refusal = 4; value = n; table = t; sheet = s })
    (cond (eqb x.refusal 0) (round_from x.table x.sheet r (suc n) os) (record { refusal = x.refusal; value = n; table = x.table; sheet = x.sheet }))

-- "An empty list meets questions 1 and, for R, 2"; "a list that ends inside an order meets the questions of an empty one, then is refused by 4"
unfoldable pub empty_questions : List ℕ → List ℕ → ℕ → Bool → List Question
empty_questions t s r whole =
    record { ask = 1; yes = sheet_right s }
    ∷ record { ask = 1; yes = well_formed t }
    ∷ record { ask = 2; yes = only_rows (used_of t) r }
    ∷ record { ask = 4; yes = whole }
    ∷ []

-- ".. then it is done, with 0"; ".. none done"
unfoldable pub none_done : List ℕ → List ℕ → ℕ → Bool → Round
none_done t s r whole = record { refusal = first_no (empty_questions t s r whole); value = 0; table = t; sheet = s }

-- "A call takes a list of up to 64 orders .. under one answering set"
unfoldable pub round_of : List ℕ → List ℕ → ℕ → List Order → Round
round_of t s r [] = none_done t s r true
round_of t s r (o ∷ os) = round_from t s r 0 (o ∷ os)

-- ---- "In C an order is 16 bytes: coordinator, length, offset (2 bytes), patch (8)", the file, the club, two unread
unfoldable pub order_in : List ℕ → Order
order_in xs = record {
  coordinator = number (part 0 1 xs);
  length = number (part 1 1 xs);
  offset = number (part 2 2 xs);
  bytes = part 4 8 xs;
  -- "orders (in C by byte 12) name a file"
  file = number (part 12 1 xs);
  -- "A write or order (in C by byte 13) names its club"
  club = number (part 13 1 xs);
}

-- the first n orders
unfoldable pub orders_in : ℕ → List ℕ → List Order
orders_in zero xs = []
orders_in (suc n) xs = order_in (take 16 xs) ∷ orders_in n (drop 16 xs)

-- the round of a list of bytes
unfoldable pub round_in : List ℕ → List ℕ → ℕ → List ℕ → Round
round_in t s r xs = cond (eqb (length xs % 16) 0) (round_of t s r (orders_in (length xs / 16) xs)) (none_done t s r false)
