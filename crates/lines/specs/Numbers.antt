-- Pages, clusters and places as plain numbers.
use Rattle.std.specs.Prelude.{ℕ, ◌+◌, ◌*◌, ◌/◌, ◌%◌, ◌^◌, Bool, cond, ◌&&◌, nat_le, nat_lt}

-- the page of an address
abbrev pub page_of : ℕ → ℕ
page_of a = a / 4096

-- how far an address lies within its page
abbrev pub offset_of : ℕ → ℕ
offset_of a = a % 4096

-- the cluster of a page: eight neighbouring pages are one cluster
abbrev pub cluster_of : ℕ → ℕ
cluster_of p = p / 8

-- where a page stands in its cluster's line
abbrev pub position_of : ℕ → ℕ
position_of p = p % 8

-- where an address lies in memory, in a page with this frame
abbrev pub place_of : ℕ → ℕ → ℕ
place_of frame a = frame * 4096 + offset_of a

-- the refusal of an address: 3 where it is too large, 0 where there is none
abbrev pub address_refusal : ℕ → ℕ
address_refusal a = cond (nat_lt a (2 ^ 48)) 0 3

-- the refusal of a page: 3 where it is too large, 0 where there is none
abbrev pub page_refusal : ℕ → ℕ
page_refusal p = cond (nat_lt p (2 ^ 36)) 0 3

-- rights are a sum of 1, 2 and 4 with at least one of them
abbrev pub good_rights : ℕ → Bool
good_rights r = nat_le 1 r && nat_le r 7

-- the refusal of a frame with rights: 4 for the frame, then 5 for the rights, 0 where there is none
abbrev pub mapping_refusal : ℕ → ℕ → ℕ
mapping_refusal f r = cond (nat_lt f (2 ^ 34)) (cond (good_rights r) 0 5) 4
