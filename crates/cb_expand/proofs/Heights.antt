-- Heights of a stack, and the ends of arguments that begin there.
use Rattle.std.proofs.Common.{◌≡◌, ℕ, zero, suc, ◌+◌, ◌-◌, ◌≤◌, ◌<◌, Bool, true, false, List, [], ◌∷◌, ◌++◌, length, take, drop, map, get_or, refl, ap, sym, ◌∙◌, arith, length-append, length-drop}
use Rattle.std.specs.Prelude.{reverse}
use Rattle.std.proofs.lemmas.List.{reverse-append, length-reverse, take_more, take-take, drop_at, drop-append-le, take-append-drop, map-append, append_cancel_right, length-take-le, length-map}
use Rattle.std.specs.Prelude.{if◌then◌else◌}
use Rattle.std.proofs.Common.{◌⊎◌, inl, inr}
use Rattle.cb_expand.specs.declared.sign.Sign.{Sign}
use Rattle.cb_expand.specs.declared.sign.Sign.TheVariants.{Open, Close, Comma, Plain}
use Rattle.cb_expand.specs.Arguments.{ends_argument, depth_behind, from_end}
use Rattle.cb_expand.specs.inner.Rows.{between, end_height}

pub map-reverse : {T U : Type 0} (f : T → U) (ts : List T) → map f (reverse ts) ≡ reverse (map f ts)
map-reverse f [] = refl
map-reverse f (t ∷ ts) =
    ap (map f) (reverse-append (t ∷ []) ts) ∙ (map-append f (reverse ts) (t ∷ []) ∙ (ap (λ xs. xs ++ f t ∷ []) (map-reverse f ts) ∙ sym (reverse-append (f t ∷ []) (map f ts))))

pub map-drop : {T U : Type 0} (f : T → U) (n : ℕ) (ts : List T) → map f (drop n ts) ≡ drop n (map f ts)
map-drop f zero ts = refl
map-drop f (suc n) [] = refl
map-drop f (suc n) (t ∷ ts) = map-drop f n ts

pub map-take : {T U : Type 0} (f : T → U) (n : ℕ) (ts : List T) → map f (take n ts) ≡ take n (map f ts)
map-take f zero ts = refl
map-take f (suc n) [] = refl
map-take f (suc n) (t ∷ ts) = ap (λ xs. f t ∷ xs) (map-take f n ts)

module _ {T : Type 0} where
  -- one token more on top
  pub between_more : (low high : ℕ) (ts : List T) (d : T) → low ≤ high → high < length ts → between low (high + 1) ts ≡ get_or ts high d ∷ between low high ts
  between_more low high ts d h k =
      let e : drop low (take (high + 1) ts) ≡ drop low (take high ts) ++ get_or ts high d ∷ [] =
      ap (drop low) (take_more ts high d k) ∙ drop-append-le low (take high ts) (get_or ts high d ∷ []) (let l : length (take high ts) ≡ high = length-take-le high ts (omega arith) in omega arith) in
      ap reverse e ∙ reverse-append (drop low (take high ts)) (get_or ts high d ∷ [])

  pub length_between : (low high : ℕ) (ts : List T) → high ≤ length ts → length (between low high ts) ≡ high - low
  length_between low high ts h = length-reverse (drop low (take high ts)) ∙ (length-drop low (take high ts) ∙ ap (λ n. n - low) (length-take-le high ts h))

  -- a height between two
  pub between_split : (low middle high : ℕ) (ts : List T) → low ≤ middle → middle ≤ high → high ≤ length ts
      → between low high ts ≡ between middle high ts ++ between low middle ts
  between_split low middle high ts a b c =
      let e : take high ts ≡ take middle ts ++ drop middle (take high ts) =
      sym (take-append-drop middle (take high ts)) ∙ ap (λ xs. xs ++ drop middle (take high ts)) (take-take middle high ts b) in
      let l : length (take middle ts) ≡ middle = length-take-le middle ts (omega arith) in
      let f : drop low (take high ts) ≡ drop low (take middle ts) ++ drop middle (take high ts) =
      ap (drop low) e ∙ drop-append-le low (take middle ts) (drop middle (take high ts)) (omega arith) in
      ap reverse f ∙ reverse-append (drop low (take middle ts)) (drop middle (take high ts))

  pub between_map : {U : Type 0} (f : T → U) (low high : ℕ) (ts : List T) → map f (between low high ts) ≡ between low high (map f ts)
  between_map f low high ts = map-reverse f (drop low (take high ts)) ∙ ap reverse (map-drop f low (take high ts) ∙ ap (drop low) (map-take f high ts))

  -- what stands below the top one
  pub drop_between : (high : ℕ) (ts : List T) → high ≤ length ts → drop 1 (between 0 high ts) ≡ between 0 (high - 1) ts
  drop_between zero ts h = refl
  drop_between (suc k) ts h =
      let e : between 0 (suc k) ts ≡ between k (suc k) ts ++ between 0 k ts = between_split 0 k (suc k) ts (omega arith) (omega arith) h in
      let l : length (between k (suc k) ts) ≡ 1 = length_between k (suc k) ts h ∙ omega arith in
      let r : suc k - 1 ≡ k = omega arith in
      ap (drop 1) e ∙ (drop_at (between k (suc k) ts) (between 0 k ts) 1 l ∙ ap (λ n. between 0 n ts) (sym r))

module _ {T : Type 0} (s : T → Sign) where
  -- what ends at a comma or a parenthesis within parentheses, ends there behind the parenthesis that closes them
  pub from_end_deeper : (commas : Bool) (depth : ℕ) (ts : List T)
      → from_end s commas (suc depth) ts ≡ from_end s commas 0 (drop 1 (from_end s false depth ts))
  unfolding from_end
  from_end_deeper commas depth [] = refl
  from_end_deeper commas zero (t ∷ ts) =
      elim (s t) as (λ g. (if ends_argument commas 1 g then t ∷ ts else from_end s commas (depth_behind 1 g) ts)
      ≡ from_end s commas 0 (drop 1 (if ends_argument false 0 g then t ∷ ts else from_end s false (depth_behind 0 g) ts))) [
        | Open ↦ from_end_deeper commas 1 ts
        | Close ↦ refl
        | Comma ↦ from_end_deeper commas 0 ts
        | Plain ↦ from_end_deeper commas 0 ts
      ]
  from_end_deeper commas (suc depth) (t ∷ ts) =
      elim (s t) as (λ g. (if ends_argument commas (suc (suc depth)) g then t ∷ ts else from_end s commas (depth_behind (suc (suc depth)) g) ts)
      ≡ from_end s commas 0 (drop 1 (if ends_argument false (suc depth) g then t ∷ ts else from_end s false (depth_behind (suc depth) g) ts))) [
        | Open ↦ from_end_deeper commas (suc (suc depth)) ts
        | Close ↦ from_end_deeper commas depth ts
        | Comma ↦ from_end_deeper commas (suc depth) ts
        | Plain ↦ from_end_deeper commas (suc depth) ts
      ]

  -- it is the last part of the list
  pub from_end_part : (commas : Bool) (depth : ℕ) (ts : List T) → (front : List T) × (ts ≡ front ++ from_end s commas depth ts)
  unfolding from_end
  from_end_part commas depth [] = ([], refl)
  from_end_part commas depth (t ∷ ts) =
      let h = from_end_part commas (depth_behind depth (s t)) ts in
      elim (ends_argument commas depth (s t)) as (λ b. (front : List T) × (t ∷ ts ≡ front ++ (if b then t ∷ ts else from_end s commas (depth_behind depth (s t)) ts))) [
        | true ↦ ([], refl)
        | false ↦ (t ∷ h.0, ap (λ xs. t ∷ xs) h.1)
      ]

  -- it stands in the front of a longer list, or begins behind it
  pub from_end_within : (commas : Bool) (depth : ℕ) (ts us : List T)
      → ((from_end s commas depth ts ≡ []) × (length (from_end s commas depth (ts ++ us)) ≤ length us))
      ⊎ ((length us < length (from_end s commas depth (ts ++ us))) × (from_end s commas depth (ts ++ us) ≡ from_end s commas depth ts ++ us))
  unfolding from_end
  from_end_within commas depth [] us =
      let h = from_end_part commas depth us in
      let l = ap length h.1 ∙ length-append h.0 (from_end s commas depth us) in
      inl (refl, omega arith)
  from_end_within commas depth (t ∷ ts) us =
      let h = from_end_within commas (depth_behind depth (s t)) ts us in
      elim (ends_argument commas depth (s t)) as (λ b.
      (((if b then t ∷ ts else from_end s commas (depth_behind depth (s t)) ts) ≡ []) × (length (if b then t ∷ (ts ++ us) else from_end s commas (depth_behind depth (s t)) (ts ++ us)) ≤ length us))
      ⊎ ((length us < length (if b then t ∷ (ts ++ us) else from_end s commas (depth_behind depth (s t)) (ts ++ us)))
      × ((if b then t ∷ (ts ++ us) else from_end s commas (depth_behind depth (s t)) (ts ++ us)) ≡ (if b then t ∷ ts else from_end s commas (depth_behind depth (s t)) ts) ++ us))) [
        | true ↦ inr (omega (arith, length-append ts us), refl)
        | false ↦ h
      ]

  -- only the signs count
  pub length_from_end : (commas : Bool) (depth : ℕ) (ts : List T) → length (from_end s commas depth ts) ≡ length (from_end (λ x. x) commas depth (map s ts))
  unfolding from_end
  length_from_end commas depth [] = refl
  length_from_end commas depth (t ∷ ts) =
      let h = length_from_end commas (depth_behind depth (s t)) ts in
      elim (ends_argument commas depth (s t)) as (λ b. length (if b then t ∷ ts else from_end s commas (depth_behind depth (s t)) ts)
      ≡ length (if b then s t ∷ map s ts else from_end (λ x. x) commas (depth_behind depth (s t)) (map s ts))) [
        | true ↦ ap suc (sym (length-map ts s))
        | false ↦ h
      ]

  -- among what stands below a height of a stack
  pub from_end_is : (commas : Bool) (depth high : ℕ) (ts : List T) → high ≤ length ts
      → (from_end s commas depth (between 0 high ts) ≡ between 0 (length (from_end s commas depth (between 0 high ts))) ts)
      × (length (from_end s commas depth (between 0 high ts)) ≤ high)
  from_end_is commas depth high ts h =
      let all = between 0 high ts in
      let end = from_end s commas depth all in
      let p = from_end_part commas depth all in
      let l : high ≡ length p.0 + length end = (omega arith ∙ sym (length_between 0 high ts h)) ∙ (ap length p.1 ∙ length-append p.0 end) in
      let e : all ≡ between (length end) high ts ++ between 0 (length end) ts = between_split 0 (length end) high ts (omega arith) (omega arith) h in
      let k : length (between (length end) high ts) ≡ length p.0 = length_between (length end) high ts h ∙ omega arith in
      (sym (drop_at p.0 end (length p.0) refl) ∙ (ap (drop (length p.0)) (sym p.1 ∙ e) ∙ drop_at (between (length end) high ts) (between 0 (length end) ts) (length p.0) k), omega arith)

  -- what stands between two heights ends there, or has no end
  pub region_end : (commas : Bool) (low high : ℕ) (ts : List T) → low ≤ high → high ≤ length ts
      → ((length (from_end s commas 0 (between 0 high ts)) ≤ low) × (from_end s commas 0 (between low high ts) ≡ []))
      ⊎ ((low < length (from_end s commas 0 (between 0 high ts))) × (length (from_end s commas 0 (between 0 high ts)) ≤ high)
      × (from_end s commas 0 (between low high ts) ≡ between low (length (from_end s commas 0 (between 0 high ts))) ts))
  region_end commas low high ts a b = region_by (from_end_within commas 0 (between low high ts) (between 0 low ts))
    where
      all : List T
      all = between 0 high ts

      height : ℕ
      height = length (from_end s commas 0 all)

      region_by : ((from_end s commas 0 (between low high ts) ≡ []) × (length (from_end s commas 0 (between low high ts ++ between 0 low ts)) ≤ length (between 0 low ts)))
          ⊎ ((length (between 0 low ts) < length (from_end s commas 0 (between low high ts ++ between 0 low ts))) × (from_end s commas 0 (between low high ts ++ between 0 low ts) ≡ from_end s commas 0 (between low high ts) ++ between 0 low ts))
          → ((height ≤ low) × (from_end s commas 0 (between low high ts) ≡ []))
          ⊎ ((low < height) × (height ≤ high) × (from_end s commas 0 (between low high ts) ≡ between low height ts))
      region_by h =
          let e : all ≡ between low high ts ++ between 0 low ts = between_split 0 low high ts (omega arith) a b in
          let l : length (between 0 low ts) ≡ low = length_between 0 low ts (omega arith) ∙ omega arith in
          let lh : length (from_end s commas 0 (between low high ts ++ between 0 low ts)) ≡ height = ap (λ xs. length (from_end s commas 0 xs)) (sym e) in
          let fi = from_end_is commas 0 high ts b in
          elim h [
            | inl q ↦ inl (omega (arith, q.1, lh, l), q.0)
            | inr q ↦
                let above : low < height = omega (arith, q.0, lh, l) in
                inr (
                  above,
                  fi.1,
                  append_cancel_right (from_end s commas 0 (between low high ts)) (between low height ts) (between 0 low ts)
                      (sym q.1 ∙ (ap (from_end s commas 0) (sym e) ∙ (fi.0 ∙ between_split 0 low height ts (omega arith) (omega arith) (omega (arith, fi.1))))),
                )
          ]

-- how the heights of ends grow with a stack
module _ (ss : List Sign) where
  at_top : (height : ℕ) (g : Sign) (commas : Bool) → height < length ss → get_or ss height Plain ≡ g
      → end_height commas ss (height + 1) ≡ length (from_end (λ x. x) commas 0 (g ∷ between 0 height ss))
  unfolding end_height
  at_top height g commas h e =
      ap (λ xs. length (from_end (λ (x : Sign). x) commas 0 xs)) (between_more 0 height ss Plain (omega arith) h ∙ ap (λ x. x ∷ between 0 height ss) e)

  pub height_close : (height : ℕ) (commas : Bool) → height < length ss → get_or ss height Plain ≡ Close → end_height commas ss (height + 1) ≡ height + 1
  unfolding from_end
  height_close height commas h e = at_top height Close commas h e ∙ (ap suc (length_between 0 height ss (omega arith)) ∙ omega arith)

  pub height_comma : (height : ℕ) → height < length ss → get_or ss height Plain ≡ Comma → end_height true ss (height + 1) ≡ height + 1
  unfolding from_end
  height_comma height h e = at_top height Comma true h e ∙ (ap suc (length_between 0 height ss (omega arith)) ∙ omega arith)

  pub height_within_comma : (height : ℕ) → height < length ss → get_or ss height Plain ≡ Comma → end_height false ss (height + 1) ≡ end_height false ss height
  unfolding from_end end_height
  height_within_comma height h e = at_top height Comma false h e

  pub height_plain : (height : ℕ) (commas : Bool) → height < length ss → get_or ss height Plain ≡ Plain → end_height commas ss (height + 1) ≡ end_height commas ss height
  unfolding from_end end_height
  height_plain height commas h e = at_top height Plain commas h e

  pub height_open : (height : ℕ) (commas : Bool) → height < length ss → get_or ss height Plain ≡ Open
      → end_height commas ss (height + 1) ≡ end_height commas ss (end_height false ss height - 1)
  unfolding from_end end_height
  height_open height commas h e =
      let all = between 0 height ss in
      let f = from_end_is (λ x. x) false 0 height ss (omega arith) in
      let n = length (from_end (λ (x : Sign). x) false 0 all) in
      let d : drop 1 (from_end (λ (x : Sign). x) false 0 all) ≡ between 0 (n - 1) ss =
      ap (drop 1) f.0 ∙ drop_between n ss (omega (arith, f.1)) in
      at_top height Open commas h e
      ∙ (ap length (from_end_deeper (λ x. x) commas 0 all) ∙ ap (λ xs. length (from_end (λ (x : Sign). x) commas 0 xs)) d)

  pub height_none : (commas : Bool) → end_height commas ss 0 ≡ 0
  unfolding end_height from_end
  height_none commas = refl

  pub height_within : (commas : Bool) (height : ℕ) → height ≤ length ss → end_height commas ss height ≤ height
  unfolding end_height
  height_within commas height h = (from_end_is (λ x. x) commas 0 height ss h).1
