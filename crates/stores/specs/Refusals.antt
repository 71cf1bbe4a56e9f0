-- Each refusal of a store by its number and values, and when it is given.
use Rattle.std.specs.Prelude.{ℕ, Bool, cond, List, [], ◌∷◌, Ok, Err, Result, ◌==◌, nat_le, nat_lt, ◌++◌, codes, decimal}
use Rattle.stores.specs.Chunks.{is_out, free_count}
use Rattle.stores.specs.declared.faults.StoreFault.{StoreFault}
use Rattle.stores.specs.declared.faults.StoreFault.TheVariants.{TooFewFree, NoneFree, NotOut, NoSuchRow}

-- a refusal's number and the values that it carries
abbrev pub told : StoreFault → List ℕ
told (TooFewFree needed free) = 14 ∷ needed ∷ free ∷ []
told NoneFree = 16 ∷ []
told NotOut = 17 ∷ []
told NoSuchRow = 18 ∷ []

-- the text of the values: how many chunks were needed and how many are free, where a refusal carries them
abbrev pub values_text : List ℕ → List ℕ
values_text [] = []
values_text (needed ∷ []) = []
values_text (needed ∷ free ∷ more) = codes ", needed " ++ (decimal needed ++ (codes ", free " ++ decimal free))

-- the text of a refusal, by its number and the values that it carries
abbrev pub refused_text : List ℕ → List ℕ
refused_text [] = []
refused_text (number ∷ values) = codes "refused " ++ (decimal number ++ values_text values)

-- what a call refuses with: nothing where it is accepted
abbrev pub refusal : {A : Type 0} → Result A StoreFault → List ℕ
refusal (Ok x) = []
refusal (Err e) = told e

-- asked for k chunks: 14, with k and the number free, where fewer are free
abbrev pub spare_refusal : List Bool → ℕ → List ℕ
spare_refusal out k = cond (nat_le k (free_count out)) [] (14 ∷ k ∷ free_count out ∷ [])

-- to take: 16 where no chunk is free
abbrev pub take_refusal : List Bool → List ℕ
take_refusal out = cond (free_count out == 0) (16 ∷ []) []

-- to give a chunk back: 17 where it is not out
abbrev pub give_back_refusal : List Bool → ℕ → List ℕ
give_back_refusal out c = cond (is_out out c) [] (17 ∷ [])

-- to reach a row of a chunk: 17 where the chunk is not out, then 18 where it has no such row
abbrev pub row_refusal : ℕ → List Bool → ℕ → ℕ → List ℕ
row_refusal rows out c r = cond (is_out out c) (cond (nat_lt r rows) [] (18 ∷ [])) (17 ∷ [])
