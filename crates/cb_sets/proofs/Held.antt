-- Whether a set holds a platform, and the members of a set with one more and of two sets.
use Rattle.std.proofs.Common.{◌≡◌, ℕ, ◌-◌, ◌*◌, ◌%◌, ◌^◌, ◌<◌, ◌≤◌, max, Bool, false, ◌||◌, eqb, List, [], length, refl, sym, ap, ◌∙◌, subst, ◌⊎◌, inl, inr, arith}
use Rattle.std.proofs.lemmas.Bool.{cases_eq, cases_lt, eq-eqb, ne_eqb}
use Rattle.std.proofs.lemmas.Nat.{or_of_32}
use Rattle.std.proofs.lemmas.Nat.Bits.{bit_at_or, bit_at-lt, bit_at_set_same, bit_at_set_other}
use Rattle.std.specs.Int.{bit_at, w32}
use Rattle.std.specs.Int.RustNames.{bit_or, count_ones}
use Rattle.std.specs.List.Sorted.{IsStrictlyIncreasing}
use Rattle.cb_lines.specs.Lines.{with_line, has_line, union_of}
use Rattle.cb_sets.specs.declared.platform_set.PlatformSet.{PlatformSet}
use Rattle.cb_sets.specs.Sets.{members, members_below}
use Rattle.cb_sets.proofs.Bits.{empty_below, has_bit, has_above, has-below, rising_below, increasing_from_rising}
use Rattle.cb_sets.proofs.Orders.{Known, known}

-- a set's number, where it has 32 bits
pub known_bits : (a : PlatformSet) → a.bits < 4294967296 → Known a a.bits
known_bits a small = (let e : a.bits % 4294967296 ≡ a.bits = omega arith in subst (Known a) e (known a))

pub has_of : (a : PlatformSet) (p : ℕ) → a.bits < 4294967296 → 0 < p → p ≤ 32 → has_line (members a) p ≡ eqb (bit_at a.bits (32 - p)) 1
has_of a p small some within =
    let e : 32 - (32 - p) ≡ p = omega arith in
    ap (λ (ls : List ℕ). has_line ls p) (known_bits a small).listed
    ∙ subst (λ (q : ℕ). has_line (members_below 32 a.bits) q ≡ eqb (bit_at a.bits (32 - p)) 1) e (has_bit 32 (32 - p) a.bits (omega arith) (omega arith) small)

none_of : (a : PlatformSet) (n p : ℕ) → Known a n → (p ≡ 0 → ⊥) → (p ≤ 32 → ⊥) → has_line (members a) p ≡ false
none_of a n p k some beyond = ap (λ (ls : List ℕ). has_line ls p) k.listed ∙ has_above 32 n p (omega arith)

zero_of : (a : PlatformSet) (n : ℕ) → Known a n → has_line (members a) 0 ≡ false
zero_of a n k = ap (λ (ls : List ℕ). has_line ls 0) k.listed ∙ has-below 1 (members_below 32 n) 0 (rising_below 32 n (omega arith)) (omega arith)

-- no set holds what is no platform
pub outside : (a : PlatformSet) (p : ℕ) → ((0 < p) × (p ≤ 32) → ⊥) → has_line (members a) p ≡ false
outside a p h =
    elim (cases_eq p 0) [
      | inl e ↦ ap (has_line (members a)) e ∙ zero_of a (a.bits % 4294967296) (known a)
      | inr some ↦ (let some' : p ≡ 0 → ⊥ = some in none_of a (a.bits % 4294967296) p (known a) some (λ le. h (omega arith, le)))
    ]

rise_of : (a : PlatformSet) (n : ℕ) → Known a n → IsStrictlyIncreasing (members a)
rise_of a n k = subst IsStrictlyIncreasing (sym k.listed) (increasing_from_rising 1 (members_below 32 n) (rising_below 32 n (omega arith)))

pub members_rise : (a : PlatformSet) → IsStrictlyIncreasing (members a)
members_rise a = rise_of a (a.bits % 4294967296) (known a)

-- a platform, or what is none
cases_platform : (p : ℕ) → ((0 < p) × (p ≤ 32)) ⊎ ((0 < p) × (p ≤ 32) → ⊥)
cases_platform p =
    elim (cases_lt 0 p) [
      | inl some ↦ elim (cases_lt 32 p) [
        | inl beyond ↦ inr (λ h. (let le : p ≤ 32 = h.1 in omega arith))
        | inr le ↦ inl (some, le)
      ]
      | inr none ↦ inr (λ h. (let lt : 0 < p = h.0 in omega arith))
    ]

added_other : (x : Bool) (p q : ℕ) → (p ≡ q → ⊥) → x ≡ (eqb p q || x)
added_other x p q ne = rw (ne_eqb p q ne) refl

with_has : (a b : PlatformSet) (p q : ℕ) → a.bits < 4294967296 → b.bits < 4294967296 → b.bits ≡ bit_or a.bits (1 * 2 ^ (32 - p) % 4294967296) → 0 < p → p ≤ 32
    → has_line (members b) q ≡ (eqb p q || has_line (members a) q)
with_has a b p q sa sb e some within =
    elim (cases_platform q) [
      | inl is ↦ (
          let qs : 0 < q = is.0 in
          let ql : q ≤ 32 = is.1 in
          has_of b q sb qs ql
          ∙ (ap (λ (n : ℕ). eqb (bit_at n (32 - q)) 1) e
          ∙ elim (cases_eq p q) [
            | inl same ↦ (
                let k : 32 - q ≡ 32 - p = omega arith in
                let one : bit_at (bit_or a.bits (1 * 2 ^ (32 - p) % 4294967296)) (32 - q) ≡ 1 =
                ap (bit_at (bit_or a.bits (1 * 2 ^ (32 - p) % 4294967296))) k ∙ bit_at_set_same w32 a.bits (32 - p) (omega arith) in
                ap (λ (n : ℕ). eqb n 1) one ∙ sym (rw (eq-eqb p q same) refl)
                )
            | inr differ ↦ (
                let differ' : p ≡ q → ⊥ = differ in
                ap (λ (n : ℕ). eqb n 1) (bit_at_set_other w32 a.bits (32 - p) (omega arith) (32 - q) (λ k. omega (arith, k)))
                ∙ (sym (has_of a q sa qs ql) ∙ added_other (has_line (members a) q) p q differ)
                )
          ])
          )
      | inr not' ↦ outside b q not' ∙ (sym (outside a q not') ∙ added_other (has_line (members a) q) p q (λ same. not' (omega arith, omega arith)))
    ]

pub with_is : ((x y : List ℕ) → IsStrictlyIncreasing x → IsStrictlyIncreasing y → ((l : ℕ) → has_line x l ≡ has_line y l) → x ≡ y)
    → ((p : ℕ) (x : List ℕ) (l : ℕ) → has_line (with_line p x) l ≡ (eqb p l || has_line x l)) → ((p : ℕ) (x : List ℕ) → IsStrictlyIncreasing x → IsStrictlyIncreasing (with_line p x))
    → (a b : PlatformSet) (p : ℕ) → a.bits < 4294967296 → b.bits ≡ bit_or a.bits (1 * 2 ^ (32 - p) % 4294967296) → 0 < p → p ≤ 32 → members b ≡ with_line p (members a)
with_is one adds rises a b p small e some within =
    let sb : b.bits < 4294967296 = subst (λ (n : ℕ). n < 4294967296) (sym e) (or_of_32 a.bits (1 * 2 ^ (32 - p) % 4294967296) small (omega arith)) in
    one (members b) (with_line p (members a)) (members_rise b) (rises p (members a) (members_rise a)) (λ q. with_has a b p q small sb e some within ∙ sym (adds p (members a) q))

or_max : (x y : ℕ) → x < 2 → y < 2 → eqb (max x y) 1 ≡ (eqb x 1 || eqb y 1)
or_max x y hx hy =
    elim (cases_eq x 1) [
      | inl one ↦ (let m : max x y ≡ 1 = omega arith in rw (eq-eqb (max x y) 1 m, eq-eqb x 1 one) refl)
      | inr other ↦ (let z : x ≡ 0 = (let other' : x ≡ 1 → ⊥ = other in omega arith) in let m : max x y ≡ y = omega arith in rw (m, ne_eqb x 1 other) refl)
    ]

pub union_is : ((x y : List ℕ) → IsStrictlyIncreasing x → IsStrictlyIncreasing y → ((l : ℕ) → has_line x l ≡ has_line y l) → x ≡ y)
    → ((x y : List ℕ) (l : ℕ) → has_line (union_of x y) l ≡ (has_line x l || has_line y l)) → ((x y : List ℕ) → IsStrictlyIncreasing y → IsStrictlyIncreasing (union_of x y))
    → (a b c : PlatformSet) → a.bits < 4294967296 → b.bits < 4294967296 → c.bits ≡ bit_or a.bits b.bits → members c ≡ union_of (members a) (members b)
union_is one adds rises a b c sa sb e =
    let sc : c.bits < 4294967296 = subst (λ (n : ℕ). n < 4294967296) (sym e) (or_of_32 a.bits b.bits sa sb) in
    one (members c) (union_of (members a) (members b)) (members_rise c) (rises (members a) (members b) (members_rise b)) (λ q.
    elim (cases_platform q) [
      | inl is ↦ has_of c q sc is.0 is.1
          ∙ (ap (λ (n : ℕ). eqb (bit_at n (32 - q)) 1) e
          ∙ (ap (λ (n : ℕ). eqb n 1) (bit_at_or a.bits b.bits (32 - q))
          ∙ (or_max (bit_at a.bits (32 - q)) (bit_at b.bits (32 - q)) (bit_at-lt a.bits (32 - q)) (bit_at-lt b.bits (32 - q))
          ∙ (ap (λ (x : Bool). x || eqb (bit_at b.bits (32 - q)) 1) (sym (has_of a q sa is.0 is.1))
          ∙ (ap (λ (x : Bool). has_line (members a) q || x) (sym (has_of b q sb is.0 is.1)) ∙ sym (adds (members a) (members b) q))))))
      | inr not' ↦ outside c q not' ∙ sym (adds (members a) (members b) q ∙ (ap (λ (x : Bool). x || has_line (members b) q) (outside a q not') ∙ outside b q not'))
    ])

pub count_of : (a : PlatformSet) → a.bits < 4294967296 → count_ones a.bits ≡ length (members a)
count_of a small = sym (known_bits a small).count

pub none_of_zero : (a : PlatformSet) → a.bits ≡ 0 → members a ≡ []
none_of_zero a e =
    let small : a.bits < 4294967296 = omega arith in
    (known_bits a small).listed ∙ (ap (members_below 32) e ∙ empty_below 32)
