-- A number and its parts of some bits each, whatever that number of bits.
use Rattle.std.proofs.Common.{◌≡◌, ℕ, zero, suc, ◌+◌, ◌-◌, ◌*◌, ◌/◌, ◌%◌, ◌^◌, ◌<◌, sym, ap, ◌∙◌, mod-eq_of_lt, mul_assoc, mul-zero, mul-one, mul-suc, mul-add, arith}
use native.Mathlib.Nat.{add-mul-div_right, add-mul-mod_self_right}
use Rattle.std.proofs.lemmas.Nat.{mod-pow-add, mul-add-lt, pow-add, pow_pos, shr_high}
use Rattle.lines.specs.Packs.{part_of}

-- a part put above those below it is read there
pub part_here : (b c t k : ℕ) → c < 2 ^ (b * k) → t < 2 ^ b → part_of b (c + t * 2 ^ (b * k)) k ≡ t
part_here b c t k p q =
    let e : (c + t * 2 ^ (b * k)) / 2 ^ (b * k) ≡ t = ap (λ n. n / 2 ^ (b * k)) (omega arith) ∙ shr_high t (b * k) c p in
    ap (λ n. n % 2 ^ b) e ∙ mod-eq_of_lt q

-- and leaves those below it as they were
pub part_below : (b c t k i : ℕ) → i < k → part_of b (c + t * 2 ^ (b * k)) i ≡ part_of b c i
part_below b c t k i p =
    let j : ℕ = k - i - 1 in
    let r : k ≡ j + 1 + i = omega arith in
    let s : b * k ≡ b * j + b + b * i =
    ap (λ n. b * n) r ∙ mul-add b (j + 1) i ∙ ap (λ n. n + b * i) (mul-add b j 1 ∙ ap (λ n. b * j + n) (mul-one b)) in
    let e : t * 2 ^ (b * k) ≡ t * 2 ^ (b * j) * 2 ^ b * 2 ^ (b * i) =
    ap (λ n. t * 2 ^ n) s
    ∙ ap (λ n. t * n) (pow-add 2 (b * j + b) (b * i) ∙ ap (λ n. n * 2 ^ (b * i)) (pow-add 2 (b * j) b))
    ∙ sym (mul_assoc t (2 ^ (b * j) * 2 ^ b) (2 ^ (b * i)))
    ∙ ap (λ n. n * 2 ^ (b * i)) (sym (mul_assoc t (2 ^ (b * j)) (2 ^ b))) in
    ap (λ n. (c + n) / 2 ^ (b * i) % 2 ^ b) e
    ∙ ap (λ n. n % 2 ^ b) (add-mul-div_right c (t * 2 ^ (b * j) * 2 ^ b) (pow_pos (b * i)))
    ∙ add-mul-mod_self_right (c / 2 ^ (b * i)) (t * 2 ^ (b * j)) (2 ^ b)

pub parts_more : (b c t k : ℕ) → c < 2 ^ (b * k) → t < 2 ^ b → c + t * 2 ^ (b * k) < 2 ^ (b * (k + 1))
parts_more b c t k p q =
    let e : b * (k + 1) ≡ b * k + b = mul-add b k 1 ∙ ap (λ n. b * k + n) (mul-one b) in
    let f : 2 ^ (b * (k + 1)) ≡ 2 ^ (b * k) * 2 ^ b = ap (λ n. 2 ^ n) e ∙ pow-add 2 (b * k) b in
    omega (arith, f, mul-add-lt t (2 ^ (b * k)) c (2 ^ b) q p)

low_same : (b c d n : ℕ) → ((i : ℕ) → i < n → part_of b c i ≡ part_of b d i) → c % 2 ^ (b * n) ≡ d % 2 ^ (b * n)
low_same b c d zero e =
    let one : 2 ^ (b * 0) ≡ 1 = ap (λ n. 2 ^ n) (mul-zero b) in
    ap (λ n. c % n) one ∙ omega arith ∙ sym (ap (λ n. d % n) one)
low_same b c d (suc n) e =
    let s : b * suc n ≡ b + b * n = omega (arith, mul-suc b n) in
    let low = low_same b c d n (λ i h. e i (omega arith)) in
    let top = e n (omega arith) in
    ap (λ m. c % 2 ^ m) s ∙ mod-pow-add c b (b * n)
    ∙ ap (λ m. m * 2 ^ (b * n) + c % 2 ^ (b * n)) top ∙ ap (λ m. part_of b d n * 2 ^ (b * n) + m) low
    ∙ sym (ap (λ m. d % 2 ^ m) s ∙ mod-pow-add d b (b * n))

-- numbers with the same parts are the same
pub same_parts : (b n c d : ℕ) → c < 2 ^ (b * n) → d < 2 ^ (b * n) → ((i : ℕ) → i < n → part_of b c i ≡ part_of b d i) → c ≡ d
same_parts b n c d p q e = sym (mod-eq_of_lt p) ∙ low_same b c d n e ∙ mod-eq_of_lt q
