-- The front of a source is read token by token.
use Rattle.std.proofs.Common.{◌≡◌, ℕ, suc, ◌+◌, ◌≤◌, ◌<◌, Bool, true, false, Some, None, List, [], ◌∷◌, ◌++◌, length, drop, get_or, refl, ap, sym, ◌∙◌, subst, arith, drop-drop, length-drop}
use Rattle.std.specs.Prelude.{◌==◌, ◌||◌, if◌then◌else◌, map, IsSomeAnd, slice_get, Option}
use Rattle.std.proofs.lemmas.List.{append-nil, append_assoc, drop_all}
use Rattle.cb_tokens.specs.declared.token.Token.{Token}
use Rattle.cb_tokens.specs.declared.token.TokenKind.{TokenKind}
use Rattle.cb_tokens.specs.Kinds.{is_identifier_kind}
use Rattle.cb_macro.specs.Definitions.{Definition}
use Rattle.cb_macro.specs.Maps.{found_at}
use Rattle.cb_macro.specs.Parts.{parts}
use Rattle.cb_paste.specs.declared.part.Part.{Part}
use Rattle.cb_paste.specs.declared.part.Shape.TheVariants.{Fixed}
use Rattle.cb_paste.specs.Shades.{Shaded, shaded, all_shaded}
use Rattle.cb_paste.specs.Puts.{own_token, puts}
use Rattle.cb_expand.specs.declared.mode.Mode.{Mode}
use Rattle.cb_expand.specs.Heads.{Named, Insertion, Stands, Calls, head, asked, named, called, gathered, object_call, put}
use Rattle.cb_expand.specs.Expansion.{Expands, ends, stands, calls, none, bare, plain, IsExpansion, IsReplacement, IsTooDear}
use Rattle.cb_expand.specs.inner.Fronts.{PutsOne, AreRead}
use Rattle.cb_expand.proofs.Unique.{by_this_head, by_all}
use Rattle.cb_expand.proofs.Headings.{head_by, asked_by_kind, no_name, a_name}

-- nothing is read
pub none_read : (ms : Named) (mode : Mode) (ts : List Token) → AreRead ms mode ts 0 [] 0
none_read ms mode ts = record { within = omega arith; forth = λ more n x. subst (λ k. IsExpansion ms mode ts more k) (omega arith) x; back = λ all n x. (all, n, x, omega arith) }

-- one token is read, and with it some behind it
pub one_read : (ms : Named) (mode : Mode) (t v : Token) (ts : List Token) (u : Shaded) (count : ℕ) → count ≤ length ts → plain u ≡ v
    → head ms mode (bare t) (map bare ts) ≡ Stands u (map bare (drop count ts)) → AreRead ms mode (t ∷ ts) (suc count) (v ∷ []) 0
one_read ms mode t v ts u count h p e = record {
  within = omega (arith, h);
  forth = λ more n x. (u ∷ x.0, subst (λ k. Expands ms mode (map bare (t ∷ ts)) (u ∷ x.0) k) (omega arith) (stands e x.1), cc (p, x.2));
  back = λ all n x.
      let r = by_this_head (Stands u (map bare (drop count ts))) e x.1 in
      (map plain r.0, n, (r.0, r.2, refl), omega arith);
}

pub first_read : (ms : Named) (mode : Mode) (ts rest : List Token) (t v : Token) (u : Shaded) (count : ℕ) → 0 < length ts → t ≡ get_or ts 0 t → rest ≡ drop 1 ts → count ≤ length rest → plain u ≡ v
    → head ms mode (bare t) (map bare rest) ≡ Stands u (map bare (drop count rest)) → AreRead ms mode ts (suc count) (v ∷ []) 0
first_read ms mode [] rest t v u count n i r h p e = absurd (omega (arith, n))
first_read ms mode (x ∷ xs) rest t v u count n i r h p e =
    let whole : t ∷ rest ≡ x ∷ xs = cc (i, r) in
    subst (λ (ts : List Token). AreRead ms mode ts (suc count) (v ∷ []) 0) whole (one_read ms mode t v rest u count h p e)

puts_one : (p spaced : Bool) (kind : TokenKind) (text : List ℕ) (hides : ℕ → Bool) (ps : List Part) → ps ≡ record { glued = false; spaced = p; shape = Fixed kind text } ∷ []
    → all_shaded hides (puts [] spaced ps) ≡ shaded hides (own_token kind spaced text) ∷ []
unfolding puts
puts_one p spaced kind text hides ps e = ap (λ ps. all_shaded hides (puts [] spaced ps)) e

-- the name of the macro in a place
pub named_by : (ms : Named) (mode : Mode) (t : Shaded) (ts : List Shaded) (place : ℕ) → is_identifier_kind t.kind ≡ true → asked mode t ts ≡ None → (m : Option (List ℕ × Definition))
    → IsSomeAnd m (λ e. found_at ms t.text ≡ Some (place, e.1)) → IsSomeAnd m (λ e. head ms mode t ts ≡ named (Some (place, e.1)) t ts)
named_by ms mode t ts place k a None f = absurd f
named_by ms mode t ts place k a (Some e) f = head_by ms mode t ts None a ∙ a_name ms t ts k (Some (place, e.1)) f

-- the name of a macro is read that becomes one token
module _ (ms : Named) (mode : Mode) (t v : Token) (ts : List Token) (place : ℕ) (d : Definition)
    (h : head ms mode (bare t) (map bare ts) ≡ named (Some (place, d)) (bare t) (map bare ts)) (o : PutsOne d v) (s : v.spaced ≡ t.spaced) where
  abbrev how : Insertion
  how = record { parts = parts d; spaced = t.spaced; hides = λ n. (n == place) || false; written = [] }

  abbrev new : Shaded
  new = shaded how.hides (own_token v.kind t.spaced v.text)

  is_put : put how [] ≡ new ∷ []
  unfolding put
  is_put = puts_one o.spaced t.spaced v.kind v.text how.hides (parts d) o.parts

  is_call : head ms mode (bare t) (map bare ts) ≡ Calls how [] (map bare ts)
  is_call = h ∙ ap (λ b. if b then called place d (bare t) (map bare ts) (gathered d (map bare ts)) else object_call place d (bare t) (map bare ts)) o.object

  is_stands : head ms mode new (map bare ts) ≡ Stands new (map bare ts)
  is_stands = head_by ms mode new (map bare ts) None (asked_by_kind mode new (map bare ts) o.plain) ∙ no_name ms new (map bare ts) o.plain

  is_token : plain new ≡ v
  is_token = ap (λ b. let w : Token = record { kind = v.kind; spaced = b; text = v.text } in w) (sym s)

  pub put_read : AreRead ms mode (t ∷ ts) 1 (v ∷ []) 2
  put_read = record {
    within = omega arith;
    forth = λ more n x.
        let y : Expands ms mode (put how [] ++ map bare ts) (new ∷ x.0) n = subst (λ l. Expands ms mode (l ++ map bare ts) (new ∷ x.0) n) (sym is_put) (stands is_stands x.1) in
        (new ∷ x.0, subst (λ k. Expands ms mode (map bare (t ∷ ts)) (new ∷ x.0) k) (omega (arith, ap length is_put)) (calls is_call none y), cc (is_token, x.2));
    back = λ all n x.
        let r = by_this_head (Calls how [] (map bare ts)) is_call x.1 in
        let a = by_all r.3 in
        let y = subst (λ l. Expands ms mode (l ++ map bare ts) x.0 r.2) (ap (λ os. put how os) a.0 ∙ is_put) r.4 in
        let z = by_this_head (Stands new (map bare ts)) is_stands y in
        (map plain z.0, r.2, (z.0, z.2, cc (is_token, z.1, x.2)), omega (arith, r.5, a.1, ap (λ os. length (put how os)) a.0, ap length is_put));
  }

pub front_put : (ms : Named) (mode : Mode) (ts rest : List Token) (t v : Token) (place : ℕ) → 0 < length ts → t ≡ get_or ts 0 t → rest ≡ drop 1 ts
    → IsSomeAnd (slice_get ms place) (λ e. head ms mode (bare t) (map bare rest) ≡ named (Some (place, e.1)) (bare t) (map bare rest))
    → IsSomeAnd (slice_get ms place) (λ e. PutsOne e.1 v) → v.spaced ≡ t.spaced → AreRead ms mode ts 1 (v ∷ []) 2
front_put ms mode [] rest t v place n i r h o s = absurd (omega (arith, n))
front_put ms mode (x ∷ xs) rest t v place n i r h o s =
    let whole : t ∷ rest ≡ x ∷ xs = cc (i, r) in
    subst (λ (ts : List Token). AreRead ms mode ts 1 (v ∷ []) 2) whole (by_macro (slice_get ms place) h o)
  where
    by_macro : (m : Option (List ℕ × Definition)) → IsSomeAnd m (λ e. head ms mode (bare t) (map bare rest) ≡ named (Some (place, e.1)) (bare t) (map bare rest))
        → IsSomeAnd m (λ e. PutsOne e.1 v) → AreRead ms mode (t ∷ rest) 1 (v ∷ []) 2
    by_macro None h o = absurd h
    by_macro (Some e) h o = put_read ms mode t v rest place e.1 h o s

-- more is read behind
pub more_read : (ms : Named) (mode : Mode) (ts : List Token) (m n : ℕ) (a b : List Token) (p q : ℕ) → AreRead ms mode ts m a p → AreRead ms mode (drop m ts) n b q → AreRead ms mode ts (m + n) (a ++ b) (p + q)
more_read ms mode ts m n a b p q x y = record {
  within = omega (arith, x.within, y.within, length-drop m ts);
  forth = λ more cost e.
      let z : IsExpansion ms mode (drop n (drop m ts)) more cost = subst (λ (us : List Token). IsExpansion ms mode us more cost) (sym (drop-drop n m ts)) e in
      subst (λ all. IsExpansion ms mode ts all (cost + (p + q))) (sym (append_assoc a b more))
      (subst (λ k. IsExpansion ms mode ts (a ++ (b ++ more)) k) (omega arith) (x.forth (b ++ more) (cost + q) (y.forth more cost z)));
  back = λ all cost e.
      let r = x.back all cost e in
      let s = y.back r.0 r.1 r.2 in
      (s.0, s.1, subst (λ (us : List Token). IsExpansion ms mode us s.0 s.1) (drop-drop n m ts) s.2, omega (arith, r.3, s.3));
}

pub read_on : (ms : Named) (mode : Mode) (ts slice : List Token) (at count : ℕ) (out new read : List Token) (p q : ℕ) → slice ≡ drop at ts → new ≡ out ++ read
    → AreRead ms mode ts at out p → AreRead ms mode slice count read q → AreRead ms mode ts (at + count) new (p + q)
read_on ms mode ts slice at count out new read p q s n x y =
    subst (λ (new : List Token). AreRead ms mode ts (at + count) new (p + q)) (sym n)
    (more_read ms mode ts at count out read p q x (subst (λ (us : List Token). AreRead ms mode us count read q) s y))

-- all is read
pub all_read : (ms : Named) (mode : Mode) (ts : List Token) (count : ℕ) (out : List Token) (paid : ℕ) → AreRead ms mode ts count out paid → count ≡ length ts → paid ≤ 65536 → IsReplacement ms mode ts out
all_read ms mode ts count out paid r e l =
    let rest : IsExpansion ms mode (drop count ts) [] 0 = subst (λ (us : List Token). IsExpansion ms mode us [] 0) (sym (drop_all count ts (omega (arith, e)))) ([], ends, refl) in
    (0 + paid, subst (λ out. IsExpansion ms mode ts out (0 + paid)) (append-nil out) (r.forth [] 0 rest), omega (arith, l))

-- what is left is replaced, or costs too much
module _ (ms : Named) (mode : Mode) (ts us : List Token) (count : ℕ) (out : List Token) (paid : ℕ) (r : AreRead ms mode ts count out paid) (e : us ≡ drop count ts) where
  pub rest_replaced : (more : List Token) → (n : ℕ) × IsExpansion ms mode us more n × (paid + n ≤ 65536) → IsReplacement ms mode ts (out ++ more)
  rest_replaced more x = (x.0 + paid, r.forth more x.0 (subst (λ (us : List Token). IsExpansion ms mode us more x.0) e x.1), omega (arith, x.2))

  pub rest_too_dear : ((more : List Token) (n : ℕ) → IsExpansion ms mode us more n → 65536 < paid + n) → IsTooDear ms mode ts
  rest_too_dear x all n y =
      let z = r.back all n y in
      omega (arith, x z.0 z.1 (subst (λ (us : List Token). IsExpansion ms mode us z.0 z.1) (sym e) z.2), z.3)
