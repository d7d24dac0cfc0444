-- The table after a joining: "The first unused row gets the name, is linked in name order, and is zero otherwise, its list empty."; "each row gets a county .. at founding or joining"
use Rattle.std.specs.Prelude.{cond, List, ℕ, suc, eqb, ltb}
use Rattle.fields.specs.Layout.{store, used, first, name, link, county, used_of, first_of, name_of, link_of, with_row}
use Rattle.table.specs.Chain.{order_of}
use Rattle.linking.specs.Linking.{last_of, behind}

-- the row that comes before the name x in the chain: the last whose name is below x; 0 where there is none
unfoldable pub row_before : List ℕ → ℕ → ℕ
row_before t x = last_of (λ i. ltb (name_of t i) x) 0 (order_of t)

-- a row with a name, a link and a county; an unused row is zero, and so is the rest of it
unfoldable pub named_row : ℕ → ℕ → ℕ → List ℕ → List ℕ
named_row x next y row = store county y (store link next (store name x row))

-- the first unused row, named x, of county y, and put into the chain behind row p (in front where p is 0): the new row, "the one link before it",
-- "the header's count and first index"
unfoldable pub joined_behind : List ℕ → ℕ → ℕ → ℕ → List ℕ
joined_behind t p x y =
    let w = suc (used_of t) in
    let new = with_row t w (named_row x (behind (first_of t) (link_of t) p) y) in
    store first (cond (eqb p 0) w (first_of t)) (store used w (with_row new p (store link w)))

unfoldable pub joined : List ℕ → ℕ → ℕ → List ℕ
joined t x y = joined_behind t (row_before t x) x y
