-- The text of the account of a list's lines in two stores.
use Rattle.std.specs.Prelude.{◌≡◌, ℕ, ◌-◌, ◌*◌, Bool, false, List, [], ◌∷◌, ◌++◌, length, replicate, codes, decimal}
use Rattle.std.specs.BTreeMap as tree
use Rattle.layout.specs.declared.sheets.Layout.{Layout}
use Rattle.layout.specs.Sheets.{LaidOut}
use Rattle.stores.specs.Chunks.{free_count}
use Rattle.stores.specs.Refusals.{refusal, refused_text, spare_refusal}
use Rattle.keeping.specs.declared.stay.Stay.{Stay}
use Rattle.keeping.specs.Stays.{chunks_for, rows_for, left_out_refusal, stop_refusal}

-- an answer by what it refuses with: agreed where that is nothing
unfoldable pub answer_text : List ℕ → List ℕ
answer_text [] = codes "agreed"
answer_text (number ∷ values) = refused_text (number ∷ values)

-- a store's chunks, their rows, and the bytes of all these rows
unfoldable pub store_text : List ℕ → ℕ → ℕ → ℕ → List ℕ
store_text name chunks rows size =
    name ++ (codes " store: " ++ (decimal chunks ++ (codes " chunks of " ++ (decimal rows ++ (codes " rows, " ++ (decimal (chunks * (rows * size)) ++ codes " bytes\n"))))))

-- how many chunks were asked for, and the text of the answer
unfoldable pub asked_text : ℕ → List ℕ → List ℕ
asked_text needed answer = codes "  asked for " ++ (decimal needed ++ (codes " chunks: " ++ (answer ++ codes "\n")))

-- how many chunks were taken, and the rows written
unfoldable pub written_text : ℕ → ℕ → ℕ → List ℕ
written_text chunks rows size =
    codes "  taken: " ++ (decimal chunks ++ (codes " chunks\n  written: " ++ (decimal rows ++ (codes " lines in " ++ (decimal rows ++ (codes " rows, " ++ (decimal (rows * size) ++ codes " bytes\n")))))))

-- the text of what stopped the laying, and how many lines it left out
abbrev pub stop_text : List ℕ → ℕ → List ℕ
stop_text answer left = codes "  stopped: " ++ (answer ++ (codes ", " ++ (decimal left ++ codes " lines left out\n")))

-- what stopped the laying, by what it refused with; nothing where it was not stopped
unfoldable pub stopped_text : List ℕ → ℕ → List ℕ
stopped_text [] left = []
stopped_text (number ∷ values) left = stop_text (refused_text (number ∷ values)) left

-- how many rows read back the same, how many chunks were given back, and how many are free then
unfoldable pub back_text : ℕ → ℕ → ℕ → List ℕ
back_text same chunks free =
    codes "  read back the same: " ++ (decimal same ++ (codes " lines\n  given back: " ++ (decimal chunks ++ (codes " chunks, " ++ (decimal free ++ codes " free\n")))))

-- what is told of a stay of n lines, with so many rows a chunk and bytes a row, after which so many chunks are free
abbrev pub told_text : ℕ → ℕ → ℕ → ℕ → Stay → List ℕ
told_text n rows size free stay =
    asked_text (chunks_for rows n) (answer_text (refusal stay.asked)) ++
    (written_text stay.chunks stay.rows size ++
    (stopped_text (stop_refusal stay.stopped) (n - stay.rows) ++ back_text stay.same stay.chunks free))

-- the same where w of the n lines find a row, in a store with these marks
abbrev pub room_text : ℕ → ℕ → ℕ → List Bool → ℕ → List ℕ
room_text n rows size out w =
    asked_text (chunks_for rows n) (answer_text (spare_refusal out (chunks_for rows n))) ++
    (written_text (chunks_for rows w) w size ++
    (stopped_text (left_out_refusal w n) (n - w) ++ back_text w (chunks_for rows w) (free_count out)))

-- a store of this name, and a stay of n lines in it: as many as find a row are written, and read back the same
abbrev pub stay_text : List ℕ → ℕ → ℕ → List Bool → ℕ → List ℕ
stay_text name size rows out n = store_text name (length out) rows size ++ room_text n rows size out (rows_for rows (free_count out) n)

-- a stay of n lines in a packed store of two chunks, all free
abbrev pub packed_text : ℕ → List ℕ
packed_text n = stay_text (codes "packed") 64 128 (replicate 2 false) n

-- a stay of n lines in a record store of eight chunks, all free
abbrev pub record_text : ℕ → List ℕ
record_text n = stay_text (codes "record") 72 4 (replicate 8 false) n

-- the account of n lines: a stay in each of the two stores
abbrev pub stores_text : ℕ → List ℕ
stores_text n = packed_text n ++ record_text n

-- a text is the account of a list: that of as many lines as a layout of the list has
pub record Accounted (list text : List ℕ) : Type 0 where
  pub layout : Layout
  pub laid_out : LaidOut list layout
  pub is : text ≡ stores_text (length (tree.values layout.lines))
