-- The order of reports is that of ranks.
use Rattle.std.proofs.Common.{◌≡◌, ℕ, ◌+◌, ◌-◌, ◌*◌, ◌%◌, ◌^◌, ◌<◌, ◌≤◌, Bool, true, false, ◌||◌, ◌&&◌, eqb, ltb, List, [], ◌∷◌, length, refl, sym, ap, ◌∙◌, subst, suc, zero, inl, inr, arith}
use Rattle.std.proofs.lemmas.Bool.{cases_Bool, cases_eq, cases_lt, cases_order, le-ltb, lt-ltb, eq-eqb, ne_eqb, false≢true}
use Rattle.std.proofs.lemmas.Slice.Eq.{bytes_eq-Decides}
use Rattle.std.specs.Int.RustNames.{count_ones}
use Rattle.std.specs.Str.{bytes_eq}
use Rattle.cb_sets.specs.declared.platform_set.PlatformSet.{PlatformSet}
use Rattle.cb_sets.specs.Sets.{members, members_below, stands_before, precedes}
use Rattle.cb_sets.specs.inner.Ranks.{rank_of}
use Rattle.cb_sets.proofs.Bits.{none_below, with_top, without_top, rest_small, count_below, Rising, rising_below}

-- a list whose first number is less than each of another one stands before it, if that has one
first_before : (x : ℕ) (xs zs : List ℕ) → Rising (x + 1) zs → 0 < length zs → stands_before (x ∷ xs) zs ≡ true
first_before x xs [] h some = absurd (omega arith)
first_before x xs (z ∷ zs) h some = (let less : x + 1 ≤ z = h.0 in rw (lt-ltb x z (omega arith)) refl)

first_behind : (x : ℕ) (xs zs : List ℕ) → Rising (x + 1) zs → 0 < length zs → stands_before zs (x ∷ xs) ≡ false
first_behind x xs [] h some = absurd (omega arith)
first_behind x xs (z ∷ zs) h some = (let less : x + 1 ≤ z = h.0 in rw (le-ltb z x (omega arith), ne_eqb z x (λ e. omega (arith, e))) refl)

both_first : (x : ℕ) (xs ys : List ℕ) → stands_before (x ∷ xs) (x ∷ ys) ≡ stands_before xs ys
both_first x xs ys = rw (le-ltb x x (omega arith), eq-eqb x x refl) refl

pub same_before : (xs : List ℕ) → stands_before xs xs ≡ false
same_before [] = refl
same_before (x ∷ xs) = both_first x xs xs ∙ same_before xs

behind_top : (k n : ℕ) → suc k ≤ 32 → Rising (32 - k + 1) (members_below k n)
behind_top k n h = (let e : 33 - k ≡ 32 - k + 1 = omega arith in subst (λ (low : ℕ). Rising low (members_below k n)) e (rising_below k n (omega arith)))

pub before_below : (k a b : ℕ) → k ≤ 32 → a < 2 ^ k → b < 2 ^ k → length (members_below k a) ≡ length (members_below k b) → stands_before (members_below k a) (members_below k b) ≡ ltb b a
before_below zero a b h la lb same =
    ap (λ (xs : List ℕ). stands_before (members_below zero a) xs) (none_below b) ∙ sym (le-ltb b a (omega arith))
before_below (suc k) a b h la lb same =
    elim (cases_lt a (2 ^ k)) [
      | inl lessa ↦ elim (cases_lt b (2 ^ k)) [
        | inl lessb ↦ (
            let fewer : length (members_below k a) ≡ length (members_below k b) = sym (ap length (without_top k a lessa)) ∙ (same ∙ ap length (without_top k b lessb)) in
            ap (λ (xs : List ℕ). stands_before xs (members_below (suc k) b)) (without_top k a lessa)
            ∙ (ap (λ (ys : List ℕ). stands_before (members_below k a) ys) (without_top k b lessb)
            ∙ before_below k a b (omega arith) lessa lessb fewer)
            )
        | inr geb ↦ (
            let len : length (members_below k a) ≡ suc (length (members_below k (b - 2 ^ k))) = sym (ap length (without_top k a lessa)) ∙ (same ∙ ap length (with_top k b geb)) in
            ap (λ (xs : List ℕ). stands_before xs (members_below (suc k) b)) (without_top k a lessa)
            ∙ (ap (λ (ys : List ℕ). stands_before (members_below k a) ys) (with_top k b geb)
            ∙ (first_behind (32 - k) (members_below k (b - 2 ^ k)) (members_below k a) (behind_top k a h) (omega arith)
            ∙ sym (le-ltb b a (omega arith))))
            )
      ]
      | inr gea ↦ elim (cases_lt b (2 ^ k)) [
        | inl lessb ↦ (
            let len : suc (length (members_below k (a - 2 ^ k))) ≡ length (members_below k b) = sym (ap length (with_top k a gea)) ∙ (same ∙ ap length (without_top k b lessb)) in
            ap (λ (xs : List ℕ). stands_before xs (members_below (suc k) b)) (with_top k a gea)
            ∙ (ap (λ (ys : List ℕ). stands_before ((32 - k) ∷ members_below k (a - 2 ^ k)) ys) (without_top k b lessb)
            ∙ (first_before (32 - k) (members_below k (a - 2 ^ k)) (members_below k b) (behind_top k b h) (omega arith)
            ∙ sym (lt-ltb b a (omega arith))))
            )
        | inr geb ↦ (
            let both : suc (length (members_below k (a - 2 ^ k))) ≡ suc (length (members_below k (b - 2 ^ k))) = sym (ap length (with_top k a gea)) ∙ (same ∙ ap length (with_top k b geb)) in
            let fewer : length (members_below k (a - 2 ^ k)) ≡ length (members_below k (b - 2 ^ k)) = omega arith in
            let tests : ltb (b - 2 ^ k) (a - 2 ^ k) ≡ ltb b a = elim (cases_lt b a) [
              | inl lt ↦ lt-ltb (b - 2 ^ k) (a - 2 ^ k) (omega arith) ∙ sym (lt-ltb b a lt)
              | inr ge ↦ le-ltb (b - 2 ^ k) (a - 2 ^ k) (omega arith) ∙ sym (le-ltb b a ge)
            ] in
            ap (λ (xs : List ℕ). stands_before xs (members_below (suc k) b)) (with_top k a gea)
            ∙ (ap (λ (ys : List ℕ). stands_before ((32 - k) ∷ members_below k (a - 2 ^ k)) ys) (with_top k b geb)
            ∙ (both_first (32 - k) (members_below k (a - 2 ^ k)) (members_below k (b - 2 ^ k))
            ∙ (before_below k (a - 2 ^ k) (b - 2 ^ k) (omega arith) (rest_small k a la gea) (rest_small k b lb geb) fewer ∙ tests)))
            )
      ]
    ]

-- what a set's number of 32 bits says of its members and of its rank
pub record Known (a : PlatformSet) (n : ℕ) : Type 0 where
  pub small : n < 4294967296
  pub listed : members a ≡ members_below 32 n
  pub count : length (members a) ≡ count_ones n
  pub rank : rank_of a ≡ count_ones n * 4294967296 + (4294967295 - n)

pub known : (a : PlatformSet) → Known a (a.bits % 4294967296)
unfolding members rank_of
known a =
    let small : a.bits % 4294967296 < 4294967296 = omega arith in
    record { small = small; listed = refl; count = count_below 32 (a.bits % 4294967296) small; rank = refl }

same_length : (m n : ℕ) (x : Bool) → m ≡ n → (ltb m n || (eqb m n && x)) ≡ x
same_length m n x e = rw (le-ltb m n (omega arith), eq-eqb m n e) refl

less_length : (m n : ℕ) (x : Bool) → m < n → (ltb m n || (eqb m n && x)) ≡ true
less_length m n x lt = rw (lt-ltb m n lt) refl

more_length : (m n : ℕ) (x : Bool) → n < m → (ltb m n || (eqb m n && x)) ≡ false
more_length m n x lt = rw (le-ltb m n (omega arith), ne_eqb m n (λ e. omega (arith, e))) refl

by_rank : (a b : PlatformSet) (m n : ℕ) → Known a m → Known b n → precedes (members a) (members b) ≡ ltb (rank_of a) (rank_of b)
by_rank a b m n ka kb =
    let sm : m < 4294967296 = ka.small in
    let sn : n < 4294967296 = kb.small in
    let la = ka.count in
    let lb = kb.count in
    let ra = ka.rank in
    let rb = kb.rank in
    elim (cases_order (length (members a)) (length (members b))) [
      | inl same ↦ (
          let fewer : length (members_below 32 m) ≡ length (members_below 32 n) = sym (ap length ka.listed) ∙ (same ∙ ap length kb.listed) in
          let lists : stands_before (members a) (members b) ≡ ltb n m =
          ap (λ (xs : List ℕ). stands_before xs (members b)) ka.listed
          ∙ (ap (λ (ys : List ℕ). stands_before (members_below 32 m) ys) kb.listed ∙ before_below 32 m n (omega arith) sm sn fewer) in
          let ranks : ltb n m ≡ ltb (rank_of a) (rank_of b) = elim (cases_lt n m) [
            | inl lt ↦ lt-ltb n m lt ∙ sym (lt-ltb (rank_of a) (rank_of b) (omega arith))
            | inr ge ↦ le-ltb n m ge ∙ sym (le-ltb (rank_of a) (rank_of b) (omega arith))
          ] in
          same_length (length (members a)) (length (members b)) (stands_before (members a) (members b)) same ∙ (lists ∙ ranks)
          )
      | inr differ ↦ elim differ [
        | inl lt ↦ less_length (length (members a)) (length (members b)) (stands_before (members a) (members b)) lt ∙ sym (lt-ltb (rank_of a) (rank_of b) (omega arith))
        | inr gt ↦ more_length (length (members a)) (length (members b)) (stands_before (members a) (members b)) gt ∙ sym (le-ltb (rank_of a) (rank_of b) (omega arith))
      ]
    ]

pub precedes_by_rank : (a b : PlatformSet) → precedes (members a) (members b) ≡ ltb (rank_of a) (rank_of b)
precedes_by_rank a b = by_rank a b (a.bits % 4294967296) (b.bits % 4294967296) (known a) (known b)

one_number : (a b : PlatformSet) (m n : ℕ) → Known a m → Known b n → rank_of a ≡ rank_of b → members a ≡ members b
one_number a b m n ka kb e =
    let sm : m < 4294967296 = ka.small in
    let sn : n < 4294967296 = kb.small in
    let ra = ka.rank in
    let rb = kb.rank in
    let same : m ≡ n = omega arith in
    ka.listed ∙ (ap (members_below 32) same ∙ sym kb.listed)

pub members_of_rank : (a b : PlatformSet) → rank_of a ≡ rank_of b → members a ≡ members b
members_of_rank a b e = one_number a b (a.bits % 4294967296) (b.bits % 4294967296) (known a) (known b) e

same_precedes : (xs : List ℕ) → precedes xs xs ≡ false
same_precedes xs = same_length (length xs) (length xs) (stands_before xs xs) refl ∙ same_before xs

pub rank_of_members : (a b : PlatformSet) → members a ≡ members b → rank_of a ≡ rank_of b
rank_of_members a b e =
    let ab : ltb (rank_of a) (rank_of b) ≡ false = sym (precedes_by_rank a b) ∙ (ap (λ (xs : List ℕ). precedes xs (members b)) e ∙ same_precedes (members b)) in
    let ba : ltb (rank_of b) (rank_of a) ≡ false = sym (precedes_by_rank b a) ∙ (ap (λ (xs : List ℕ). precedes (members b) xs) e ∙ same_precedes (members b)) in
    elim (cases_order (rank_of a) (rank_of b)) [
      | inl same ↦ same
      | inr differ ↦ elim differ [
        | inl lt ↦ absurd (false≢true (sym ab ∙ lt-ltb (rank_of a) (rank_of b) lt))
        | inr gt ↦ absurd (false≢true (sym ba ∙ lt-ltb (rank_of b) (rank_of a) gt))
      ]
    ]

-- two sets have the same members where their ranks are the same
pub same_by_rank : (a b : PlatformSet) → bytes_eq (members a) (members b) ≡ eqb (rank_of a) (rank_of b)
same_by_rank a b =
    elim (cases_Bool (bytes_eq (members a) (members b))) [
      | inl yes' ↦ yes' ∙ sym (eq-eqb (rank_of a) (rank_of b) (rank_of_members a b ((bytes_eq-Decides (members a) (members b)).0 yes')))
      | inr no' ↦ no' ∙ sym (ne_eqb (rank_of a) (rank_of b) (λ e. false≢true (sym no' ∙ (bytes_eq-Decides (members a) (members b)).1 (members_of_rank a b e))))
    ]

eqb_turned : (m n : ℕ) → eqb m n ≡ eqb n m
eqb_turned m n =
    elim (cases_eq m n) [
      | inl e ↦ eq-eqb m n e ∙ sym (eq-eqb n m (sym e))
      | inr ne ↦ ne_eqb m n ne ∙ sym (ne_eqb n m (λ e. ne (sym e)))
    ]

pub same_by_rank_turned : (a b : PlatformSet) → eqb (rank_of b) (rank_of a) ≡ bytes_eq (members a) (members b)
same_by_rank_turned a b = eqb_turned (rank_of b) (rank_of a) ∙ sym (same_by_rank a b)
