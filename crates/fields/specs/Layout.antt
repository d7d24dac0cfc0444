-- The table in memory: the only places where offsets stand. A table is its bytes; every reading of it is total.
use Rattle.std.specs.Prelude.{Bool, cond, ◌&&◌, List, [], ◌++◌, ℕ, ◌+◌, ◌-◌, ◌*◌, eqb, leb, length, drop}
use Rattle.blocks.specs.Blocks.{block, with_block, with_blocks}
use Rattle.octets.specs.Bytes.{number, bytes_of, part, put, zeros}
use Rattle.fields.specs.declared.Laid.{Laid}

-- a number at a place, so many bytes wide
pub record Field : Type 0 where
  pub place : ℕ
  pub width : ℕ

unfoldable pub get : Field → List ℕ → ℕ
get f xs = number (part f.place f.width xs)

unfoldable pub store : Field → ℕ → List ℕ → List ℕ
store f v xs = put f.place (bytes_of f.width v) xs

-- "Header, 16 bytes: byte 0 form; 1 capacity; 2 rows used; 3 index of the first row in the chain; 4 to 5 file length L"; "byte 6 is the number of files"; "the rest 0".
unfoldable pub form : Field
form = record { place = 0; width = 1 }

-- byte 0: "header form 5", the newest form
unfoldable pub form_value : ℕ
form_value = 5

unfoldable pub capacity : Field
capacity = record { place = 1; width = 1 }

unfoldable pub used : Field
used = record { place = 2; width = 1 }

unfoldable pub first : Field
first = record { place = 3; width = 1 }

unfoldable pub file_length : Field
file_length = record { place = 4; width = 2 }

unfoldable pub file_count : Field
file_count = record { place = 6; width = 1 }

-- the bytes of a header that are zero in a table of this form
unfoldable pub rest_in : ℕ → List ℕ → List ℕ
rest_in f t = cond (leb 4 f) (part 7 9 t) (part 6 10 t)

-- a row's head: "0 to 1 name; 2 next row's index; 12 to 15 epoch number; 16 to 23 epoch list"; "row byte 24 becomes the grid mark"; "each row gets a
-- county, 1 to 8, .. in row byte 26"
unfoldable pub name : Field
name = record { place = 0; width = 2 }

unfoldable pub link : Field
link = record { place = 2; width = 1 }

unfoldable pub epoch : Field
epoch = record { place = 12; width = 4 }

unfoldable pub members : Field
members = record { place = 16; width = 8 }

unfoldable pub grid_mark : Field
grid_mark = record { place = 24; width = 1 }

unfoldable pub county : Field
county = record { place = 26; width = 1 }

-- a row's epoch list as it was laid; the row with another; and no list: "an empty list has mark 0"
unfoldable pub list : List ℕ → Laid
list row = record { members = get members row; mark = get grid_mark row }

unfoldable pub store_list : Laid → List ℕ → List ℕ
store_list l row = store grid_mark l.mark (store members l.members row)

unfoldable pub no_list : Laid
no_list = record { members = 0; mark = 0 }

-- "a row with an empty list": a list that names no row
unfoldable pub is_empty : Laid → Bool
is_empty l = eqb l.members 0

-- "A table with grid mark 2 is tall": a list that is laid tall
unfoldable pub is_tall : Laid → Bool
is_tall l = eqb l.mark 2

-- the bytes of a row's head that are zero in a table of this form: from the grid mark on in form 1, from the oldest record on in form 2, behind it in
-- form 3; in form 4 "a row's first 32 bytes keep name, link, epoch, list and grid mark, the rest 0"; in the newest form they keep the county too
unfoldable pub reserved : List ℕ → List ℕ
reserved row = part 3 9 row ++ (part 25 1 row ++ part 27 5 row)

unfoldable pub reserved_in : ℕ → List ℕ → List ℕ
reserved_in f row =
    cond (eqb f 1) (part 24 8 row)
    (cond (eqb f 2) (part 25 7 row)
    (cond (eqb f 3) (part 26 6 row)
    (cond (eqb f 4) (part 3 9 row ++ part 25 7 row)
    (reserved row))))

-- ---- a copy, what a row keeps of one file: "Then comes for each file: mark, oldest record, two zeros, version, desired version, contents, records."
unfoldable pub mark : Field
mark = record { place = 0; width = 1 }

unfoldable pub oldest : Field
oldest = record { place = 1; width = 1 }

unfoldable pub spare : List ℕ → List ℕ
spare copy = part 2 2 copy

unfoldable pub version : Field
version = record { place = 4; width = 4 }

unfoldable pub desired : Field
desired = record { place = 8; width = 4 }

-- "After the contents come 16 records of 36 bytes": the contents, between the first 12 bytes of the copy and its last 576
unfoldable pub contents : List ℕ → List ℕ
contents copy = part 12 (length copy - 588) copy

unfoldable pub records : List ℕ → List ℕ
records copy = drop (length copy - 576) copy

-- the copy with other records
unfoldable pub store_records : List ℕ → List ℕ → List ℕ
store_records bytes copy = put (length copy - 576) bytes copy

-- the copy with bytes put into its contents
unfoldable pub store_contents : ℕ → List ℕ → List ℕ → List ℕ
store_contents offset p copy = put (12 + offset) p copy

-- before form 4 a row is its own copy, of one file: "3 stale mark; 4 to 7 version; 8 to 11 desired version"; "Row byte 25 is the oldest record's index"
unfoldable pub former_mark : Field
former_mark = record { place = 3; width = 1 }

unfoldable pub former_oldest : Field
former_oldest = record { place = 25; width = 1 }

unfoldable pub mark_in : ℕ → Field
mark_in f = cond (leb 4 f) mark former_mark

unfoldable pub oldest_in : ℕ → Field
oldest_in f = cond (leb 4 f) oldest former_oldest

unfoldable pub spare_in : ℕ → List ℕ → List ℕ
spare_in f copy = cond (leb 4 f) (spare copy) []

-- ---- a row's length
unfoldable pub copy_length : ℕ → ℕ
copy_length file_length = 12 + file_length + 576

-- a row's body, all that stands behind its 32 bytes: the contents; from form 3 on the records too; from form 4 on a copy for each file
unfoldable pub body_in : ℕ → ℕ → ℕ → ℕ
body_in f files file_length = cond (leb 4 f) (files * copy_length file_length) (cond (leb 3 f) (file_length + 576) file_length)

-- "Then each row takes 32 + L bytes", and what the form adds: a row's length from the form, the number of files and their length
unfoldable pub stride_in : ℕ → ℕ → ℕ → ℕ
stride_in f files file_length = 32 + body_in f files file_length

-- in a table of the newest form
unfoldable pub body_length : ℕ → ℕ → ℕ
body_length files file_length = body_in form_value files file_length

unfoldable pub stride : ℕ → ℕ → ℕ
stride files file_length = 32 + body_length files file_length

-- a row of which no more is known, or set, than name, link and county, with so many bytes behind its head: "zero otherwise", its list empty
unfoldable pub bare_row : ℕ → ℕ → ℕ → ℕ → List ℕ
bare_row x next y body = bytes_of 2 x ++ (bytes_of 1 next ++ (zeros 23 ++ (bytes_of 1 y ++ (zeros 5 ++ zeros body))))

-- ---- a row's copies, behind its head: that of file q, files being "counted from 1"; the row with it changed by f, and no other byte
unfoldable pub copy_in : ℕ → ℕ → List ℕ → List ℕ
copy_in file_length q row = block 32 (copy_length file_length) q row

unfoldable pub in_copy : ℕ → ℕ → (List ℕ → List ℕ) → List ℕ → List ℕ
in_copy file_length q f row = with_block 32 (copy_length file_length) q f row

-- the row with its copy of each file q of s among 1 to files changed by f q
unfoldable pub in_copies : ℕ → ℕ → (ℕ → Bool) → (ℕ → List ℕ → List ℕ) → List ℕ → List ℕ
in_copies files file_length s f row = with_blocks 32 (copy_length file_length) s f files row

-- in a table of this form: before form 4 the row itself
unfoldable pub copy_of : ℕ → ℕ → ℕ → List ℕ → List ℕ
copy_of f file_length q row = cond (leb 4 f) (copy_in file_length q row) row

-- ---- what a table says: its header
unfoldable pub form_of : List ℕ → ℕ
form_of t = get form t

unfoldable pub capacity_of : List ℕ → ℕ
capacity_of t = get capacity t

unfoldable pub used_of : List ℕ → ℕ
used_of t = get used t

unfoldable pub first_of : List ℕ → ℕ
first_of t = get first t

unfoldable pub file_length_of : List ℕ → ℕ
file_length_of t = get file_length t

-- before form 4 a table is of one file
unfoldable pub files_of : List ℕ → ℕ
files_of t = cond (leb 4 (form_of t)) (get file_count t) 1

-- ---- where its rows stand, row 1 first
unfoldable pub row_length : List ℕ → ℕ
row_length t = stride_in (form_of t) (files_of t) (file_length_of t)

-- where the rows behind row k start
unfoldable pub rows_end : List ℕ → ℕ → ℕ
rows_end t k = 16 + k * row_length t

-- "Rows have indexes 1 upward": row i's bytes; there is no row 0
unfoldable pub row_bytes : List ℕ → ℕ → List ℕ
row_bytes t i = block 16 (row_length t) i t

-- the table with row i changed by f, and no other byte
unfoldable pub with_row : List ℕ → ℕ → (List ℕ → List ℕ) → List ℕ
with_row t i f = with_block 16 (row_length t) i f t

-- the table with each row i of s among 1 to n changed by f i, and no other byte
unfoldable pub with_rows : List ℕ → (ℕ → Bool) → (ℕ → List ℕ → List ℕ) → ℕ → List ℕ
with_rows t s f n = with_blocks 16 (row_length t) s f n t

-- ---- what a table says: its row i
unfoldable pub name_of : List ℕ → ℕ → ℕ
name_of t i = get name (row_bytes t i)

unfoldable pub link_of : List ℕ → ℕ → ℕ
link_of t i = get link (row_bytes t i)

unfoldable pub epoch_of : List ℕ → ℕ → ℕ
epoch_of t i = get epoch (row_bytes t i)

unfoldable pub list_of : List ℕ → ℕ → Laid
list_of t i = list (row_bytes t i)

-- who is no used row has no county
unfoldable pub county_of : List ℕ → ℕ → ℕ
county_of t i = cond (leb 1 i && leb i (used_of t)) (get county (row_bytes t i)) 0

-- ---- and of file q
unfoldable pub copy_bytes : List ℕ → ℕ → ℕ → List ℕ
copy_bytes t q i = copy_in (file_length_of t) q (row_bytes t i)

unfoldable pub stale_of : List ℕ → ℕ → ℕ → Bool
stale_of t q i = eqb (get mark (copy_bytes t q i)) 1

unfoldable pub version_of : List ℕ → ℕ → ℕ → ℕ
version_of t q i = get version (copy_bytes t q i)

unfoldable pub desired_of : List ℕ → ℕ → ℕ → ℕ
desired_of t q i = get desired (copy_bytes t q i)

unfoldable pub contents_of : List ℕ → ℕ → ℕ → List ℕ
contents_of t q i = contents (copy_bytes t q i)
