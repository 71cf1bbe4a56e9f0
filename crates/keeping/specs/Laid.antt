-- Lines laid into the chunks of a list.
use Rattle.std.specs.Prelude.{◌≡◌, ℕ, ◌+◌, ◌*◌, ◌/◌, ◌%◌, ◌<◌, ◌≤◌, true, List, [], ◌∷◌, ◌++◌, length, MatchBool, ◌==◌, slice_index, slice_index_or}
use Rattle.lines.specs.declared.rows.Line.{Line}
use Rattle.lines.specs.Lines.{empty_line}
use Rattle.stores.specs.Chunks.{Free, free_count, is_out}
use Rattle.stores.specs.Refusals.{told}
use Rattle.stores.specs.declared.faults.StoreFault.{StoreFault}
use Rattle.stores.specs.Stores.{Store, taken, given_back, written}

-- the chunks of a list given back, one after the other
abbrev pub all_given : Store → List ℕ → Store
all_given s [] = s
all_given s (c ∷ cs) = all_given (given_back s c) cs

-- a free chunk is taken from s, which leaves t, and stands last in the list
pub record Took (s : Store) (cs : List ℕ) (t : Store) (ds : List ℕ) : Type 0 where
  pub chunk : ℕ
  pub free : Free s.out chunk
  pub store : t ≡ taken s chunk
  pub list : ds ≡ cs ++ chunk ∷ []

-- a chunk is taken for line k where its row is the first of one, and nothing is done where it is not
abbrev pub Opened : ℕ → ℕ → Store → List ℕ → Store → List ℕ → Type 0
Opened rows k s cs t ds = MatchBool (k % rows == 0) (Took s cs t ds) ((t ≡ s) × (ds ≡ cs))

-- there is a chunk for line k with a row for it, and it is out
abbrev pub Ready : ℕ → ℕ → Store → List ℕ → Type 0
Ready rows k s cs = (k / rows < length cs) × (is_out s.out (slice_index cs (k / rows)) ≡ true) × (k % rows < rows)

-- no chunk is free for line k, and nothing is done
pub record NoRoom (rows k : ℕ) (e : StoreFault) (s : Store) (cs : List ℕ) (t : Store) (ds : List ℕ) : Type 0 where
  pub said : told e ≡ 16 ∷ []
  pub first : k % rows ≡ 0
  pub none : free_count s.out ≡ 0
  pub store : t ≡ s
  pub list : ds ≡ cs

-- line k written into its row: row k mod R of the chunk that stands at k div R in the list
abbrev pub line_put : ℕ → ℕ → Line → Store → List ℕ → Store
line_put rows k l s cs = written s (slice_index cs (k / rows)) (k % rows) l

-- line k is laid into its row, once there is a chunk for it
pub record LineLaid (rows k : ℕ) (l : Line) (s : Store) (cs : List ℕ) (t : Store) (ds : List ℕ) : Type 0 where
  pub between : Store
  pub opened : Opened rows k s cs between ds
  pub store : t ≡ line_put rows k l between ds

-- each line stands in its row of the chunks of a list, which are out
abbrev pub Standing : ℕ → Store → List ℕ → List Line → Type 0
Standing rows t cs ls =
    (i : ℕ) → i < length ls →
    (i / rows < length cs) × (is_out t.out (slice_index cs (i / rows)) ≡ true) × (t.line (slice_index cs (i / rows)) (i % rows) ≡ slice_index_or ls i empty_line)

-- the first n lines are laid, from the store s, which leaves t, into chunks that were free
pub record Laid (rows : ℕ) (s : Store) (ls : List Line) (n : ℕ) (t : Store) (cs : List ℕ) : Type 0 where
  -- the chunks have room for them
  pub room : n ≤ length cs * rows
  -- each chunk is out
  pub out : (i : ℕ) → i < length cs → is_out t.out (slice_index cs i) ≡ true
  -- and stands once in the list
  pub apart : (i j : ℕ) → i < length cs → j < length cs → slice_index cs i ≡ slice_index cs j → i ≡ j
  -- each line in its row
  pub lines : (i : ℕ) → i < n → t.line (slice_index cs (i / rows)) (i % rows) ≡ slice_index_or ls i empty_line
  -- so many fewer chunks are free
  pub free : free_count t.out + length cs ≡ free_count s.out
  -- once the chunks are given back the store is as it was
  pub back : all_given t cs ≡ s
