-- The bytes and splices of the part of a source up to a position, and one step more.
use Rattle.std.proofs.Common.{◌≡◌, ℕ, ◌+◌, ◌-◌, ◌^◌, ◌<◌, ◌≤◌, min, Bool, true, false, cond, if◌then◌else◌, ◌||◌, ◌&&◌, ◌==◌, List, [], ◌∷◌, ◌++◌, length, take, drop, refl, sym, ap, ◌∙◌, subst, suc, zero, inl, inr, arith, append_assoc, append-nil, length-append}
use Rattle.std.proofs.lemmas.Bool.{cases_Bool, cases_lt, le-leb, false≢true, false_from_ne_true, and_parts, and_from, or_cases, or_left, or_right, eqb-true, eq-eqb, or_parts, and_left, and_right}
use Rattle.std.proofs.lemmas.List.{get_or_past, drop_more}
use Rattle.cb_lines.specs.declared.mark.Mark.{Mark}
use Rattle.cb_lines.specs.Marks.{byte_at, is_line_feed, is_line_return, begins_line_end, is_splice, is_spliced_feed, is_deleted, line_at, marks_from, marks_of}
use Rattle.cb_lines.specs.inner.Held.{passed, feeds, marks_held, Rises, is_special}
use Rattle.cb_lines.proofs.Positions.{marks_from-taken, marks_from-stays, marks_from-end, line_at-more}
use Rattle.cb_lines.proofs.Holding.{feed, feeds-append, held-append, held-before}

-- no line end after a backslash reaches over the position
pub record IsClear (source : List ℕ) (i : ℕ) : Type 0 where
  pub feed_stays : is_spliced_feed source i ≡ false
  pub return_stays : is_line_return source i ≡ true → byte_at source (i - 1) ≡ 92 → ⊥

-- numbers up to a bound
abbrev Below : ℕ → List ℕ → Type 0
Below high [] = Unit {0}
Below high (s ∷ ss) = (s ≤ high) × Below high ss

-- the bytes and splices up to a position, followed by the marks from it on, are the marks of the source
pub record Kept (source : List ℕ) (i : ℕ) (bytes ss : List ℕ) : Type 0 where
  pub marks : marks_held 1 0 bytes ss ++ marks_from source i ≡ marks_of source
  pub line : line_at source i ≡ min (2 ^ 32 - 1) (1 + feeds bytes + length ss)
  pub rises : Rises 0 ss
  pub below : Below (length bytes) ss
  pub clear : IsClear source i

feed_next : (lf b92 b13 x r : Bool) → (b13 && lf) ≡ false → (b92 && (lf || r)) ≡ false → (lf && (b92 || (b13 && x))) ≡ false
feed_next false b92 b13 x r h k = refl
feed_next true true b13 x r h k = absurd (false≢true (sym k))
feed_next true false true x r h k = absurd (false≢true (sym h))
feed_next true false false x r h k = refl

or3_false : (x y z : Bool) → x ≡ false → y ≡ false → z ≡ false → ((x || y) || z) ≡ false
or3_false x y z e f g = rw (e, f, g) refl

-- the position before the next one
before_next : (i : ℕ) → i + 1 - 1 ≡ i
before_next i = omega arith

feed_zero : (b : ℕ) (x : Bool) → (is_line_feed b && ((b == 92) || ((b == 13) && x))) ≡ false
feed_zero b x =
    elim (cases_Bool (b == 10)) [
      | inl is ↦ (let e : b ≡ 10 = eqb-true b 10 is in rw e refl)
      | inr no_feed ↦ and_left (is_line_feed b) ((b == 92) || ((b == 13) && x)) no_feed
    ]

-- a line end of two bytes begins with a CR
return_is : (source : List ℕ) (i : ℕ) → is_line_return source i ≡ true → (byte_at source i ≡ 13) × (byte_at source (i + 1) ≡ 10)
return_is source i h =
    let b = and_parts (byte_at source i == 13) (is_line_feed (byte_at source (i + 1))) h in
    (eqb-true (byte_at source i) 13 b.0, eqb-true (byte_at source (i + 1)) 10 b.1)

pub clear_zero : (source : List ℕ) → IsClear source 0
clear_zero source = record {
  feed_stays = feed_zero (byte_at source 0) (byte_at source (0 - 2) == 92);
  return_stays = λ h e. absurd (omega (arith, (return_is source 0 h).0, e));
}

-- whether an LF is one of a splice, by the bytes before it
feed_after : (source : List ℕ) (i : ℕ) (t : Bool) → (is_line_feed (byte_at source (i + 1)) && ((byte_at source i == 92) || ((byte_at source i == 13) && (byte_at source (i - 1) == 92)))) ≡ t → is_spliced_feed source (i + 1) ≡ t
feed_after source i t h =
    let e : i + 1 - 1 ≡ i = omega arith in
    let f : i + 1 - 2 ≡ i - 1 = omega arith in
    subst (λ (n : ℕ). (is_line_feed (byte_at source (i + 1)) && ((byte_at source n == 92) || ((byte_at source n == 13) && (byte_at source (i + 1 - 2) == 92)))) ≡ t) (sym e)
    (subst (λ (n : ℕ). (is_line_feed (byte_at source (i + 1)) && ((byte_at source i == 92) || ((byte_at source i == 13) && (byte_at source n == 92)))) ≡ t) (sym f) h)

pub clear_kept : (source : List ℕ) (i : ℕ) → is_line_return source i ≡ false → is_splice source i ≡ false → IsClear source (i + 1)
clear_kept source i no_return no_splice = record {
  feed_stays = feed_after source i false (feed_next (is_line_feed (byte_at source (i + 1))) (byte_at source i == 92) (byte_at source i == 13) (byte_at source (i - 1) == 92) (is_line_return source (i + 1)) no_return no_splice);
  return_stays = λ h e.
      let same : i + 1 - 1 ≡ i = omega arith in
      let is : byte_at source i ≡ 92 = subst (λ (n : ℕ). byte_at source n ≡ 92) same e in
      let ends : begins_line_end source (i + 1) ≡ true = or_right (is_line_feed (byte_at source (i + 1))) (is_line_return source (i + 1)) h in
      false≢true (sym no_splice ∙ and_from (byte_at source i == 92) (begins_line_end source (i + 1)) (eq-eqb (byte_at source i) 92 is) ends);
}

pub clear_return : (source : List ℕ) (i : ℕ) → is_line_return source i ≡ true → IsClear source i → IsClear source (i + 1)
clear_return source i h clear =
    let is = return_is source i h in
    let not_slash : (byte_at source (i - 1) == 92) ≡ false = false_from_ne_true (byte_at source (i - 1) == 92) (λ e. clear.return_stays h (eqb-true (byte_at source (i - 1)) 92 e)) in
    record {
      feed_stays = feed_after source i false (rw (not_slash, is.0) (and_right (is_line_feed (byte_at source (i + 1))) false refl));
      return_stays = λ k e. absurd (omega (arith, (return_is source (i + 1) k).0, is.1));
    }

-- behind an LF
pub clear_feed : (source : List ℕ) (i : ℕ) → byte_at source i ≡ 10 → IsClear source (i + 1)
clear_feed source i is = record {
  feed_stays = feed_after source i false (rw is (and_right (is_line_feed (byte_at source (i + 1))) false refl));
  return_stays = λ h e. (let same : i + 1 - 1 ≡ i = omega arith in let f : byte_at source i ≡ 92 = subst (λ (n : ℕ). byte_at source n ≡ 92) same e in absurd (omega (arith, is, f)));
}

-- a byte other than 0 stands in the source
within_source : (source : List ℕ) (i b : ℕ) → byte_at source i ≡ suc b → i < length source
within_source source i b e =
    elim (cases_lt i (length source)) [
      | inl lt ↦ lt
      | inr ge ↦ (let z : byte_at source i ≡ 0 = get_or_past source i 0 ge in absurd (omega (arith, z, e)))
    ]

line_same : (source : List ℕ) (i b : ℕ) → i < length source → byte_at source i ≡ b → is_line_feed b ≡ false → line_at source (i + 1) ≡ line_at source i
line_same source i b h is no_feed =
    let one : Bool → ℕ = λ t. cond t 1 0 in
    let e : feed (byte_at source i) ≡ 0 = ap feed is ∙ ap one no_feed in
    omega (arith, line_at-more source i h, e)

line_next : (source : List ℕ) (i : ℕ) → i < length source → byte_at source i ≡ 10 → line_at source (i + 1) ≡ min (2 ^ 32 - 1) (line_at source i + 1)
line_next source i h is =
    let e : feed (byte_at source i) ≡ 1 = ap feed is in
    omega (arith, line_at-more source i h, e)

pub kept_none : (source : List ℕ) → Kept source 0 [] []
kept_none source = record {
  marks = refl;
  line = refl;
  rises = tt;
  below = tt;
  clear = clear_zero source;
}

pub kept_return : (source : List ℕ) (i : ℕ) (bytes ss : List ℕ) → i < length source → is_line_return source i ≡ true → Kept source i bytes ss → Kept source (i + 1) bytes ss
kept_return source i bytes ss h return k =
    let is = return_is source i return in
    let taken : is_deleted source i ≡ true = or_left (is_line_return source i || is_splice source i) (is_spliced_feed source i) (or_left (is_line_return source i) (is_splice source i) return) in
    record {
      marks = ap (λ (ms : List Mark). marks_held 1 0 bytes ss ++ ms) (sym (marks_from-taken source i h taken)) ∙ k.marks;
      line = line_same source i 13 h is.0 refl ∙ k.line;
      rises = k.rises;
      below = k.below;
      clear = clear_return source i return k.clear;
    }

passed_below : (at : ℕ) (ss : List ℕ) → Below at ss → passed at ss ≡ length ss
passed_below at [] h = refl
passed_below at (s ∷ ss) h = rw (le-leb s at h.0) (omega (arith, passed_below at ss h.1))

Below-weaker : (low high : ℕ) (ss : List ℕ) → low ≤ high → Below low ss → Below high ss
Below-weaker low high [] le h = tt
Below-weaker low high (s ∷ ss) le h = (let w : s ≤ low = h.0 in omega arith, Below-weaker low high ss le h.1)

Below-push : (n : ℕ) (ss : List ℕ) → Below n ss → Below n (ss ++ n ∷ [])
Below-push n [] h = (omega arith, tt)
Below-push n (s ∷ ss) h = (h.0, Below-push n ss h.1)

Rises-push : (low n : ℕ) (ss : List ℕ) → low ≤ n → Rises low ss → Below n ss → Rises low (ss ++ n ∷ [])
Rises-push low n [] le h b = (le, tt)
Rises-push low n (s ∷ ss) le h b = (h.0, Rises-push s n ss b.0 h.1 b.1)

pub kept_byte : (source : List ℕ) (i : ℕ) (bytes ss : List ℕ) → i < length source → is_line_return source i ≡ false → is_splice source i ≡ false → Kept source i bytes ss → Kept source (i + 1) (bytes ++ byte_at source i ∷ []) ss
kept_byte source i bytes ss h no_return no_splice k =
    let b : ℕ = byte_at source i in
    let stays : is_deleted source i ≡ false = or3_false (is_line_return source i) (is_splice source i) (is_spliced_feed source i) no_return no_splice k.clear.feed_stays in
    let mark : marks_from source i ≡ record { byte = b; line = line_at source i } ∷ marks_from source (i + 1) =
    marks_from-stays source i h stays in
    let line : line_at source i ≡ min (2 ^ 32 - 1) (1 + feeds bytes + passed (0 + length bytes) ss) = k.line ∙ (let e : length ss ≡ passed (0 + length bytes) ss = sym (subst (λ (n : ℕ). passed n ss ≡ length ss) (let z : length bytes ≡ 0 + length bytes = omega arith in z) (passed_below (length bytes) ss k.below)) in ap (λ (n : ℕ). min (2 ^ 32 - 1) (1 + feeds bytes + n)) e) in
    record {
      marks =
          ap (λ (ms : List Mark). ms ++ marks_from source (i + 1)) (held-append 1 0 bytes (b ∷ []) ss)
          ∙ (append_assoc (marks_held 1 0 bytes ss) (marks_held (1 + feeds bytes) (0 + length bytes) (b ∷ []) ss) (marks_from source (i + 1))
          ∙ (ap (λ (l : ℕ). marks_held 1 0 bytes ss ++ (record { byte = b; line = l } ∷ marks_from source (i + 1))) (sym line)
          ∙ (ap (λ (ms : List Mark). marks_held 1 0 bytes ss ++ ms) (sym mark) ∙ k.marks)));
      line = omega (arith, line_at-more source i h, k.line, feeds-append bytes (b ∷ []));
      rises = k.rises;
      below = Below-weaker (length bytes) (length (bytes ++ b ∷ [])) ss (omega (arith, length-append bytes (b ∷ []))) k.below;
      clear = clear_kept source i no_return no_splice;
    }

-- one splice more, whose line end is taken away with it
spliced : (source : List ℕ) (i j : ℕ) (bytes ss : List ℕ) → marks_from source i ≡ marks_from source j → line_at source j ≡ min (2 ^ 32 - 1) (line_at source i + 1) → IsClear source j → Kept source i bytes ss → Kept source j bytes (ss ++ length bytes ∷ [])
spliced source i j bytes ss same line clear k = record {
  marks = ap (λ (ms : List Mark). ms ++ marks_from source j) (held-before 1 0 bytes ss (length bytes) (omega arith)) ∙ (ap (λ (ms : List Mark). marks_held 1 0 bytes ss ++ ms) (sym same) ∙ k.marks);
  line = omega (arith, line, k.line, length-append ss (length bytes ∷ []));
  rises = Rises-push 0 (length bytes) ss (omega arith) k.rises k.below;
  below = Below-push (length bytes) ss k.below;
  clear = clear;
}

-- a position and what comes of a splice from it
pub record Behind (source : List ℕ) (j : ℕ) (bytes ss : List ℕ) : Type 0 where
  pub within : j ≤ length source
  pub kept : Kept source j bytes ss

splice_deleted : (source : List ℕ) (i : ℕ) → is_splice source i ≡ true → is_deleted source i ≡ true
splice_deleted source i h = or_left (is_line_return source i || is_splice source i) (is_spliced_feed source i) (or_right (is_line_return source i) (is_splice source i) h)

feed_deleted : (source : List ℕ) (i : ℕ) → (is_line_feed (byte_at source (i + 1)) && ((byte_at source i == 92) || ((byte_at source i == 13) && (byte_at source (i - 1) == 92)))) ≡ true → is_deleted source (i + 1) ≡ true
feed_deleted source i h = or_right (is_line_return source (i + 1) || is_splice source (i + 1)) (is_spliced_feed source (i + 1)) (feed_after source i true h)

splice_feed : (source : List ℕ) (i : ℕ) (bytes ss : List ℕ) → is_splice source i ≡ true → byte_at source i ≡ 92 → byte_at source (i + 1) ≡ 10 → Kept source i bytes ss → Behind source (i + 1 + 1) bytes (ss ++ length bytes ∷ [])
splice_feed source i bytes ss splice slash is k =
    let first : i < length source = within_source source i 91 slash in
    let second : i + 1 < length source = within_source source (i + 1) 9 is in
    let taken : marks_from source i ≡ marks_from source (i + 1 + 1) =
    marks_from-taken source i first (splice_deleted source i splice) ∙ marks_from-taken source (i + 1) second (feed_deleted source i (rw (is, slash) refl)) in
    let line : line_at source (i + 1 + 1) ≡ min (2 ^ 32 - 1) (line_at source i + 1) =
    line_next source (i + 1) second is ∙ ap (λ (n : ℕ). min (2 ^ 32 - 1) (n + 1)) (line_same source i 92 first slash refl) in
    record {
      within = omega arith;
      kept = spliced source i (i + 1 + 1) bytes ss taken line (clear_feed source (i + 1) is) k;
    }

splice_return : (source : List ℕ) (i : ℕ) (bytes ss : List ℕ) → is_splice source i ≡ true → byte_at source i ≡ 92 → is_line_return source (i + 1) ≡ true → Kept source i bytes ss → Behind source (i + 1 + 1 + 1) bytes (ss ++ length bytes ∷ [])
splice_return source i bytes ss splice slash return k =
    let is = return_is source (i + 1) return in
    let first : i < length source = within_source source i 91 slash in
    let second : i + 1 < length source = within_source source (i + 1) 12 is.0 in
    let third : i + 1 + 1 < length source = within_source source (i + 1 + 1) 9 is.1 in
    let before : byte_at source (i + 1 - 1) ≡ 92 = (let e : i + 1 - 1 ≡ i = omega arith in ap (byte_at source) e ∙ slash) in
    let taken : marks_from source i ≡ marks_from source (i + 1 + 1 + 1) =
    marks_from-taken source i first (splice_deleted source i splice)
    ∙ (marks_from-taken source (i + 1) second (or_left (is_line_return source (i + 1) || is_splice source (i + 1)) (is_spliced_feed source (i + 1)) (or_left (is_line_return source (i + 1)) (is_splice source (i + 1)) return))
    ∙ marks_from-taken source (i + 1 + 1) third (feed_deleted source (i + 1) (rw (is.1, is.0, before) refl))) in
    let line : line_at source (i + 1 + 1 + 1) ≡ min (2 ^ 32 - 1) (line_at source i + 1) =
    line_next source (i + 1 + 1) third is.1
    ∙ ap (λ (n : ℕ). min (2 ^ 32 - 1) (n + 1)) (line_same source (i + 1) 13 second is.0 refl ∙ line_same source i 92 first slash refl) in
    record {
      within = omega arith;
      kept = spliced source i (i + 1 + 1 + 1) bytes ss taken line (clear_feed source (i + 1 + 1) is.1) k;
    }

pub kept_splice : (source : List ℕ) (i j : ℕ) (bytes ss : List ℕ) → is_splice source i ≡ true → j ≡ (if is_line_feed (byte_at source (i + 1)) then i + 1 + 1 else i + 1 + 2) → Kept source i bytes ss → Behind source j bytes (ss ++ length bytes ∷ [])
kept_splice source i j bytes ss splice e k =
    let parts = and_parts (byte_at source i == 92) (begins_line_end source (i + 1)) splice in
    let slash : byte_at source i ≡ 92 = eqb-true (byte_at source i) 92 parts.0 in
    let place : Bool → ℕ = λ t. if t then i + 1 + 1 else i + 1 + 2 in
    elim (cases_Bool (is_line_feed (byte_at source (i + 1)))) [
      | inl is ↦ (
          let j_is : j ≡ i + 1 + 1 = e ∙ ap place is in
          subst (λ (j : ℕ). Behind source j bytes (ss ++ length bytes ∷ [])) (sym j_is) (splice_feed source i bytes ss splice slash (eqb-true (byte_at source (i + 1)) 10 is) k)
          )
      | inr no_feed ↦ elim (or_cases (is_line_feed (byte_at source (i + 1))) (is_line_return source (i + 1)) parts.1) [
        | inl is ↦ absurd (false≢true (sym no_feed ∙ is))
        | inr return ↦ (
            let last : i + 1 + 2 ≡ i + 1 + 1 + 1 = omega arith in
            let j_is : j ≡ i + 1 + 1 + 1 = e ∙ (ap place no_feed ∙ last) in
            subst (λ (j : ℕ). Behind source j bytes (ss ++ length bytes ∷ [])) (sym j_is) (splice_return source i bytes ss splice slash return k)
            )
      ]
    ]

-- bytes at which nothing begins
kept_bytes : (n : ℕ) (source : List ℕ) (i : ℕ) (bytes ss : List ℕ) → i + n ≤ length source → ((k : ℕ) → i ≤ k → k < i + n → (is_line_return source k ≡ false) × (is_splice source k ≡ false)) → Kept source i bytes ss → Kept source (i + n) (bytes ++ take n (drop i source)) ss
kept_bytes zero source i bytes ss h plain k =
    let e : i ≡ i + 0 = omega arith in
    subst (λ (n : ℕ). Kept source n (bytes ++ []) ss) e (subst (λ (bs : List ℕ). Kept source i bs ss) (sym (append-nil bytes)) k)
kept_bytes (suc n) source i bytes ss h plain k =
    let b : ℕ = byte_at source i in
    let l : i < length source = omega arith in
    let none = plain i (omega arith) (omega arith) in
    let one : Kept source (i + 1) (bytes ++ b ∷ []) ss =
    kept_byte source i bytes ss l none.0 none.1 k in
    let rest : Kept source (i + 1 + n) ((bytes ++ b ∷ []) ++ take n (drop (i + 1) source)) ss =
    kept_bytes n source (i + 1) (bytes ++ b ∷ []) ss (omega arith) (λ k le lt. plain k (omega arith) (omega arith)) one in
    let e : i + 1 + n ≡ i + suc n = omega arith in
    let same : (bytes ++ b ∷ []) ++ take n (drop (i + 1) source) ≡ bytes ++ take (suc n) (drop i source) =
    append_assoc bytes (b ∷ []) (take n (drop (i + 1) source)) ∙ ap (λ (bs : List ℕ). bytes ++ take (suc n) bs) (sym (drop_more source i 0 l)) in
    subst (λ (m : ℕ). Kept source m (bytes ++ take (suc n) (drop i source)) ss) e (subst (λ (bs : List ℕ). Kept source (i + 1 + n) bs ss) same rest)

pub kept_run : (source : List ℕ) (i j : ℕ) (bytes ss : List ℕ) → i ≤ j → j ≤ length source → ((k : ℕ) → i ≤ k → k < j → (is_line_return source k ≡ false) × (is_splice source k ≡ false)) → Kept source i bytes ss → Kept source j (bytes ++ take (j - i) (drop i source)) ss
kept_run source i j bytes ss le h plain k =
    let e : i + (j - i) ≡ j = omega arith in
    subst (λ (m : ℕ). Kept source m (bytes ++ take (j - i) (drop i source)) ss) e (kept_bytes (j - i) source i bytes ss (omega arith) (λ k le lt. plain k le (omega arith)) k)

pub kept_all : (source : List ℕ) (i : ℕ) (bytes ss : List ℕ) → length source ≤ i → Kept source i bytes ss → marks_held 1 0 bytes ss ≡ marks_of source
kept_all source i bytes ss h k =
    sym (append-nil (marks_held 1 0 bytes ss)) ∙ (ap (λ (ms : List Mark). marks_held 1 0 bytes ss ++ ms) (sym (marks_from-end source i h)) ∙ k.marks)

-- a byte that is no CR and no backslash
pub no_cut : (source : List ℕ) (k : ℕ) → is_special (byte_at source k) ≡ false → (is_line_return source k ≡ false) × (is_splice source k ≡ false)
no_cut source k h =
    let none = or_parts (byte_at source k == 92) (byte_at source k == 13) h in
    (and_left (byte_at source k == 13) (is_line_feed (byte_at source (k + 1))) none.1, and_left (byte_at source k == 92) (begins_line_end source (k + 1)) none.0)

pub more_stay : (source : List ℕ) (from at found : ℕ) → ((k : ℕ) → from ≤ k → k < at → (is_line_return source k ≡ false) × (is_splice source k ≡ false)) → ((k : ℕ) → at ≤ k → k < found → is_special (byte_at source k) ≡ false)
    → (k : ℕ) → from ≤ k → k < found → (is_line_return source k ≡ false) × (is_splice source k ≡ false)
more_stay source from at found h plain k le lt =
    elim (cases_lt k at) [ inl before ↦ h k le before | inr behind ↦ no_cut source k (plain k behind lt) ]
