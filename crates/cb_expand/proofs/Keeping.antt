-- The ends that are kept for a row.
use Rattle.std.proofs.Common.{◌≡◌, ℕ, zero, suc, ◌+◌, ◌≤◌, ◌<◌, Bool, true, false, List, [], ◌∷◌, ◌++◌, length, take, get_or, refl, ap, sym, ◌∙◌, subst, arith, length-append, length-take}
use Rattle.std.proofs.lemmas.List.{get_or_append_left, get_or_at, get_or-take, take-take, take-append-le}
use Rattle.std.specs.Prelude.{reverse}
use Rattle.std.proofs.Common.{◌⊎◌, inl, inr}
use Rattle.std.proofs.lemmas.Bool.{cases_lt}
use Rattle.cb_paste.specs.declared.work_token.WorkToken.{WorkToken}
use Rattle.cb_expand.specs.declared.sign.Sign.{Sign}
use Rattle.cb_expand.specs.declared.sign.Sign.TheVariants.{Plain}
use Rattle.cb_expand.specs.declared.row.Ends.{Ends}
use Rattle.cb_expand.specs.Arguments.{sign, from_end}
use Rattle.cb_expand.specs.inner.Rows.{signs, kept, end_height, AreEnds}
use Rattle.cb_expand.proofs.Heights.{map-take}

-- the sign of a token that was read
pub sign_at : (ts : List WorkToken) (i : ℕ) (t : WorkToken) → i < length ts → t ≡ get_or ts i t → get_or (signs ts) i Plain ≡ sign t.kind t.text
sign_at [] i t h e = absurd (omega arith)
sign_at (x ∷ xs) zero t h e = ap (λ (y : WorkToken). sign y.kind y.text) (sym e)
sign_at (x ∷ xs) (suc i) t h e = sign_at xs i t (omega arith) e

pub kept_push : (field : Ends → ℕ) (es : List Ends) (e : Ends) (height : ℕ) → height ≤ length es → kept field (es ++ e ∷ []) height ≡ kept field es height
kept_push field es e zero h = refl
kept_push field es e (suc i) h = ap field (get_or_append_left es (e ∷ []) (record { close = 0; separator = 0 }) i h)

kept_top : (field : Ends → ℕ) (es : List Ends) (e : Ends) → kept field (es ++ e ∷ []) (suc (length es)) ≡ field e
kept_top field es e = ap field (get_or_at es e [] (record { close = 0; separator = 0 }) (length es) refl)

kept_each : (field : Ends → ℕ) (ss : List Sign) (es : List Ends) (e : Ends) (commas : Bool)
    → ((height : ℕ) → height ≤ length es → kept field es height ≡ end_height commas ss height) → field e ≡ end_height commas ss (length es + 1)
    → (height : ℕ) → height ≤ length (es ++ e ∷ []) → kept field (es ++ e ∷ []) height ≡ end_height commas ss height
kept_each field ss es e commas below top height h = by_cases (cases_lt (length es) height)
  where
    by_cases : (length es < height) ⊎ (height ≤ length es) → kept field (es ++ e ∷ []) height ≡ end_height commas ss height
    by_cases (inr a) = kept_push field es e height a ∙ below height a
    by_cases (inl a) =
        let l = length-append es (e ∷ []) in
        let n : height ≡ suc (length es) = omega arith in
        let m : suc (length es) ≡ length es + 1 = omega arith in
        ap (kept field (es ++ e ∷ [])) n ∙ (kept_top field es e ∙ (top ∙ ap (end_height commas ss) (sym (n ∙ m))))

-- the ends of one token more
pub ends_push : (ss : List Sign) (es : List Ends) (e : Ends) → AreEnds ss es → length es < length ss
    → e.close ≡ end_height false ss (length es + 1) → e.separator ≡ end_height true ss (length es + 1) → AreEnds ss (es ++ e ∷ [])
ends_push ss es e a h c s = record {
  within = omega (arith, length-append es (e ∷ []));
  close = kept_each (λ e. e.close) ss es e false a.close c;
  separator = kept_each (λ e. e.separator) ss es e true a.separator s;
}

-- what stands above does not count
pub height_front : (commas : Bool) (ss us : List Sign) (height : ℕ) → height ≤ length ss → end_height commas (ss ++ us) height ≡ end_height commas ss height
unfolding end_height
height_front commas ss us height h = ap (λ xs. length (from_end (λ (x : Sign). x) commas 0 (reverse xs))) (take-append-le height ss us h)

pub ends_more : (ss us : List Sign) (es : List Ends) → AreEnds ss es → AreEnds (ss ++ us) es
ends_more ss us es a = record {
  within = omega (arith, a.within, length-append ss us);
  close = λ height h. a.close height h ∙ sym (height_front false ss us height (omega (arith, a.within)));
  separator = λ height h. a.separator height h ∙ sym (height_front true ss us height (omega (arith, a.within)));
}

pub height_take : (commas : Bool) (ss : List Sign) (n height : ℕ) → height ≤ n → end_height commas (take n ss) height ≡ end_height commas ss height
unfolding end_height
height_take commas ss n height h = ap (λ xs. length (from_end (λ (x : Sign). x) commas 0 (reverse xs))) (take-take height n ss h)

kept_take : (field : Ends → ℕ) (es : List Ends) (n height : ℕ) → height ≤ n → kept field (take n es) height ≡ kept field es height
kept_take field es n zero h = refl
kept_take field es n (suc i) h = ap field (get_or-take n es i (record { close = 0; separator = 0 }) h)

pub ends_take : (ss : List Sign) (es : List Ends) (n : ℕ) → AreEnds ss es → AreEnds (take n ss) (take n es)
ends_take ss es n a = record {
  within = omega (arith, a.within, length-take n ss, length-take n es);
  close = λ height h. let l = length-take n es in
      kept_take (λ e. e.close) es n height (omega arith) ∙ (a.close height (omega arith) ∙ sym (height_take false ss n height (omega arith)));
  separator = λ height h. let l = length-take n es in
      kept_take (λ e. e.separator) es n height (omega arith) ∙ (a.separator height (omega arith) ∙ sym (height_take true ss n height (omega arith)));
}

pub row_take : (ts : List WorkToken) (es : List Ends) (n : ℕ) → AreEnds (signs ts) es → AreEnds (signs (take n ts)) (take n es)
row_take ts es n r =
    let e : signs (take n ts) ≡ take n (signs ts) = map-take (λ (t : WorkToken). sign t.kind t.text) n ts in
    subst (λ ss. AreEnds ss (take n es)) (sym e) (ends_take (signs ts) es n r)

-- the same lists, otherwise written
pub row_is : (ts us : List WorkToken) (es fs : List Ends) → ts ≡ us → es ≡ fs → AreEnds (signs ts) es → AreEnds (signs us) fs
row_is ts us es fs p q r = subst (λ es. AreEnds (signs us) es) q (subst (λ ts. AreEnds (signs ts) es) p r)
