-- Steps behind one another, from the source to the end.
use Rattle.std.proofs.Common.{◌≡◌, ℕ, zero, suc, ◌+◌, ◌≤◌, ◌<◌, Bool, true, false, List, [], ◌∷◌, ◌++◌, length, take, refl, ap, sym, ◌∙◌, subst, arith, Option, Some, None, Result, Ok, Err, IfOk, length-append}
use Rattle.std.specs.Prelude.{reverse, map}
use Rattle.std.proofs.lemmas.List.{map-append, take-append-le, reverse-reverse, take_all}
use Rattle.cb_tokens.specs.declared.token.Token.{Token}
use Rattle.cb_paste.specs.declared.work_token.WorkToken.{WorkToken}
use Rattle.cb_paste.specs.Sets.{hides}
use Rattle.cb_paste.specs.Shades.{seen, AreIn}
use Rattle.cb_expand.specs.declared.mode.Mode.{Mode}
use Rattle.cb_expand.specs.declared.row.Ends.{Ends}
use Rattle.cb_expand.specs.declared.sign.Sign.{Sign}
use Rattle.cb_expand.specs.declared.work.Call.{Call}
use Rattle.cb_expand.specs.declared.work.Frame.{Frame}
use Rattle.cb_expand.specs.declared.work.Work.{Work}
use Rattle.cb_expand.specs.Heads.{Named, Stands}
use Rattle.cb_expand.specs.Expansion.{Expands, bare, plain, IsExpansion}
use Rattle.cb_expand.specs.inner.Machine.{State, At, Steps, start, whole}
use Rattle.cb_expand.specs.inner.Rows.{between, signs, kept, end_height, AreEnds}
use Rattle.cb_expand.specs.inner.Works.{seen_all, pendings, row_of, outer_of, state_of, AreFrames, IsWork, Goes, Exceeds, weight, Stepped}
use Rattle.cb_expand.specs.inner.Readings.{rest_of, reading, head_of, Taken}
use Rattle.cb_expand.specs.inner.Sources.{as_read, as_token, IsStart, IsEnd, IsRunFrom}
use Rattle.cb_expand.proofs.Heights.{map-reverse, height_none}
use Rattle.cb_expand.proofs.Stepping.{step_none, step_more, step_end}
use Rattle.cb_expand.proofs.Alike.{pendings_same, extends_none, in_append, in_front, in_back}
use Rattle.cb_expand.proofs.Readings.{stood}
use Rattle.cb_expand.proofs.Resuming.{between_added, between_none, length_row}

module _ (ms : Named) (mode : Mode) where
  pub goes_none : (s : State) (used : ℕ) → Goes ms mode s used s used
  goes_none s used = record { cost = 0; steps = step_none ms mode s; sum = omega arith }

  pub goes_more : (s t u : State) (a b c : ℕ) → Goes ms mode s a t b → Goes ms mode t b u c → Goes ms mode s a u c
  goes_more s t u a b c g h = record {
    cost = g.cost + h.cost;
    steps = step_more ms mode s t u g.cost h.cost g.steps h.steps;
    sum = omega (arith, g.sum, h.sum);
  }

  pub exceeds_more : (s t : State) (a b : ℕ) → Goes ms mode s a t b → Exceeds ms mode t b → Exceeds ms mode s a
  exceeds_more s t a b g x final n e =
      let r = g.steps.forth final n e in
      omega (arith, g.sum, r.2, x final r.0 r.1)

  pub stepped_more : (a b c : Work) → Stepped ms mode a None b None → Stepped ms mode b None c None → Stepped ms mode a None c None
  stepped_more a b c g h = record {
    goes = goes_more (state_of ms a None) (state_of ms b None) (state_of ms c None) a.used b.used c.used g.goes h.goes;
    kept = h.kept;
    smaller = omega (arith, g.smaller, h.smaller);
  }

-- a token is taken from the row
module _ (ms : Named) (w : Work) (t : WorkToken) (old : List WorkToken) (e : old ≡ w.row.tokens.items ++ t ∷ []) (f : w.floor ≤ length w.row.tokens.items) where
  front : seen_all w.arena old ≡ row_of w ++ seen w.arena t ∷ []
  front = ap (seen_all w.arena) e ∙ map-append (seen w.arena) w.row.tokens.items (t ∷ [])

  pub read_rest : between w.floor (length (seen_all w.arena old)) (seen_all w.arena old) ≡ seen w.arena t ∷ rest_of w
  read_rest = ap (λ ss. between w.floor (length ss) ss) front ∙ between_added w.floor (row_of w) (seen w.arena t ∷ []) (omega (arith, length_row w))

  pub read_outer : AreFrames (length ms) (length w.arena) w.floor (reverse w.frames.items)
      → pendings ms w.arena (seen_all w.arena old) w.floor (reverse w.frames.items) ≡ outer_of ms w
  read_outer h =
      let a : take w.floor (seen_all w.arena old) ≡ take w.floor (row_of w) =
      ap (take w.floor) front ∙ take-append-le w.floor (row_of w) (seen w.arena t ∷ []) (omega (arith, length_row w)) in
      sym (pendings_same ms w.arena w.arena (extends_none w.arena) (length ms) (seen_all w.arena old) (row_of w) w.floor (reverse w.frames.items) h a)

  pub read_state : AreFrames (length ms) (length w.arena) w.floor (reverse w.frames.items)
      → At (pendings ms w.arena (seen_all w.arena old) w.floor (reverse w.frames.items)) (between w.floor (length (seen_all w.arena old)) (seen_all w.arena old)) (seen_all w.arena w.done.items)
      ≡ reading ms w t
  read_state h =
      ap (λ ps. At ps (between w.floor (length (seen_all w.arena old)) (seen_all w.arena old)) (seen_all w.arena w.done.items)) (read_outer h)
      ∙ ap (λ xs. At (outer_of ms w) xs (seen_all w.arena w.done.items)) read_rest

-- tokens of a source
pub plain_bare : (ts : List Token) → map plain (map bare ts) ≡ ts
plain_bare [] = refl
plain_bare (t ∷ ts) = ap (λ xs. t ∷ xs) (plain_bare ts)

pub plain_seen : (sets : List (List ℕ)) (ts : List WorkToken) → map plain (seen_all sets ts) ≡ map as_token ts
plain_seen sets [] = refl
plain_seen sets (t ∷ ts) = ap (λ xs. as_token t ∷ xs) (plain_seen sets ts)

seen_read : (sets : List (List ℕ)) (ts : List Token) → seen_all sets (map as_read ts) ≡ map bare ts
unfolding hides
seen_read sets [] = refl
seen_read sets (t ∷ ts) = ap (λ xs. bare t ∷ xs) (seen_read sets ts)

pub read_in : (n : ℕ) (ts : List Token) → AreIn n (map as_read ts)
read_in n [] = tt
read_in n (t ∷ ts) = (omega arith, read_in n ts)

-- a source of which nothing is read yet
pub source_row : (sets : List (List ℕ)) (ts : List Token) (us : List WorkToken) → us ≡ map as_read (reverse ts)
    → between 0 (length (seen_all sets us)) (seen_all sets us) ≡ map bare ts
source_row sets ts us e =
    let a : seen_all sets us ≡ reverse (map bare ts) = ap (seen_all sets) e ∙ (seen_read sets (reverse ts) ∙ map-reverse bare ts) in
    ap reverse (take_all (length (seen_all sets us)) (seen_all sets us) (omega arith)) ∙ (ap reverse a ∙ reverse-reverse (map bare ts))

-- no ends are kept yet
pub ends_none : (ss : List Sign) (es : List Ends) → es ≡ [] → AreEnds ss es
ends_none ss es e = subst (λ (es : List Ends). AreEnds ss es) (sym e) (record {
  within = omega arith;
  close = none_by (λ e. e.close) false;
  separator = none_by (λ e. e.separator) true;
})
  where
    none_by : (field : Ends → ℕ) (commas : Bool) (height : ℕ) → height ≤ 0 → kept field [] height ≡ end_height commas ss height
    none_by field commas zero h = sym (height_none ss commas)
    none_by field commas (suc i) h = absurd (omega arith)

pub started : (tokens : List Token) (w : Work) → w.row.tokens.items ≡ map as_read (reverse tokens) → AreEnds (signs w.row.tokens.items) w.row.ends.items → w.floor ≡ 0
    → w.frames.items ≡ [] → w.done.items ≡ [] → (paid : ℕ) → w.used ≡ paid → paid ≤ 65536 → IsStart tokens paid w
unfolding state_of
started tokens w r k f g d paid u l = record {
  work = λ macros. record {
    row = k;
    tokens = subst (λ (xs : List WorkToken). AreIn (length w.arena) xs) (sym r) (read_in (length w.arena) (reverse tokens));
    done = subst (λ (xs : List WorkToken). AreIn (length w.arena) xs) (sym d) tt;
    floor = omega (arith, f);
    frames = subst (λ (xs : List Frame). AreFrames macros (length w.arena) w.floor (reverse xs)) (sym g) f;
    call = omega (arith, u, l, ap length g);
  };
  state = λ ms.
      ap (λ (xs : List Frame). At (pendings ms w.arena (row_of w) w.floor (reverse xs)) (between w.floor (length (row_of w)) (row_of w)) (seen_all w.arena w.done.items)) g
      ∙ (ap (λ n. At [] (between n (length (row_of w)) (row_of w)) (seen_all w.arena w.done.items)) f
      ∙ (ap (λ xs. At [] xs (seen_all w.arena w.done.items)) (source_row w.arena tokens w.row.tokens.items r)
      ∙ ap (λ xs. At [] (map bare tokens) (seen_all w.arena xs)) d));
  used = u;
}

-- nothing is left to do
pub end_state : (ms : Named) (w : Work) (call : Option Call) → AreFrames (length ms) (length w.arena) w.floor (reverse w.frames.items) → IsEnd w call → state_of ms w call ≡ At [] [] (seen_all w.arena w.done.items)
unfolding state_of
end_state ms w call h e =
    let f : w.floor ≡ 0 = subst (λ (xs : List Frame). AreFrames (length ms) (length w.arena) w.floor (reverse xs)) e.1 h in
    ap (λ c. state_of ms w c) e.0
    ∙ (ap (λ (xs : List Frame). At (pendings ms w.arena (row_of w) w.floor (reverse xs)) (between w.floor (length (row_of w)) (row_of w)) (seen_all w.arena w.done.items)) e.1
    ∙ ap (λ xs. At [] xs (seen_all w.arena w.done.items)) (between_none w.floor (length (row_of w)) (row_of w) (omega (arith, f, length_row w, ap length e.2))))

-- something is left where a list has ended
pub some_frames : (ms : Named) (w : Work) → AreFrames (length ms) (length w.arena) w.floor (reverse w.frames.items) → length w.row.tokens.items ≤ w.floor → (IsEnd w None → ⊥) → 0 < length w.frames.items
some_frames ms w h a n = by_frames w.frames.items refl
  where
    no_tokens_left : (ts : List WorkToken) → length ts ≤ 0 → ts ≡ []
    no_tokens_left [] h = refl
    no_tokens_left (t ∷ ts) h = absurd (omega arith)

    by_frames : (fs : List Frame) → w.frames.items ≡ fs → 0 < length fs
    by_frames (f ∷ fs) e = omega arith
    by_frames [] e =
        let f : w.floor ≡ 0 = subst (λ (xs : List Frame). AreFrames (length ms) (length w.arena) w.floor (reverse xs)) e h in
        absurd (n (refl, e, no_tokens_left w.row.tokens.items (omega (arith, f))))

-- at the end
pub ended : (ms : Named) (mode : Mode) (tokens : List Token) (paid : ℕ) (w new : Work) → IsStart tokens paid w → IsRunFrom ms mode w new → (out : List Token) → out ≡ map as_token new.done.items
    → (n : ℕ) × IsExpansion ms mode tokens out n × (paid + n ≤ 65536)
ended ms mode tokens paid w new s r out e =
    let g = r.goes in
    let x : Expands ms mode (map bare tokens) (seen_all new.arena new.done.items) g.cost =
    step_end ms mode (map bare tokens) (seen_all new.arena new.done.items) g.cost
    (subst (λ st. Steps ms mode st (At [] [] (seen_all new.arena new.done.items)) g.cost) (s.state ms) g.steps) in
    (g.cost, (seen_all new.arena new.done.items, x, plain_seen new.arena new.done.items ∙ sym e), omega (arith, g.sum, s.used, r.limit))

pub too_dear : (ms : Named) (mode : Mode) (tokens : List Token) (paid : ℕ) (w : Work) → IsStart tokens paid w → Exceeds ms mode (state_of ms w None) w.used → (out : List Token) (n : ℕ) → IsExpansion ms mode tokens out n → 65536 < paid + n
too_dear ms mode tokens paid w s x out n e =
    let y : Exceeds ms mode (start (map bare tokens)) w.used = subst (λ st. Exceeds ms mode st w.used) (s.state ms) x in
    omega (arith, y e.0 n (whole e.1 refl), s.used)

-- a token is dealt with
pub if_ok_more : {T E : Type 0} {P Q : T → Type 0} (r : Result T E) → ((x : T) → P x → Q x) → IfOk r P → IfOk r Q
if_ok_more (Ok x) f h = f x h
if_ok_more (Err e) f h = tt

module _ (ms : Named) (mode : Mode) (old popped new : Work) (t : WorkToken) (behind : Option Call) where
  pub read_step : state_of ms old None ≡ reading ms popped t → old.used ≡ popped.used → weight old ≡ weight popped + 2 → Taken ms mode popped t new behind → Stepped ms mode old None new behind
  read_step e u l a = record {
    goes = subst (λ n. Goes ms mode (state_of ms old None) n (state_of ms new behind) new.used) (sym u) (subst (λ s. Goes ms mode s popped.used (state_of ms new behind) new.used) (sym e) a.goes);
    kept = a.kept;
    smaller = omega (arith, a.smaller, l);
  }

pub popped_work : (macros : ℕ) (w p : Work) (t : WorkToken) → IsWork macros w None → w.row.tokens.items ≡ p.row.tokens.items ++ t ∷ [] → AreEnds (signs p.row.tokens.items) p.row.ends.items
    → w.floor < length w.row.tokens.items → p.arena ≡ w.arena → p.floor ≡ w.floor → p.frames ≡ w.frames → p.done ≡ w.done → p.used ≡ w.used → IsWork macros p None
popped_work macros w p t h e r more a f fs d u = record {
  row = r;
  tokens = subst (λ sets. AreIn (length sets) p.row.tokens.items) (sym a) (in_front (length w.arena) p.row.tokens.items (t ∷ []) (subst (λ (xs : List WorkToken). AreIn (length w.arena) xs) e h.tokens));
  done = subst (λ sets. AreIn (length sets) p.done.items) (sym a) (subst (λ v. AreIn (length w.arena) v.items) (sym d) h.done);
  floor = omega (arith, f, more, ap length e, length-append p.row.tokens.items (t ∷ []));
  frames = subst (λ sets. AreFrames macros (length sets) p.floor (reverse p.frames.items)) (sym a)
      (subst (λ n. AreFrames macros (length w.arena) n (reverse p.frames.items)) (sym f) (subst (λ v. AreFrames macros (length w.arena) w.floor (reverse v.items)) (sym fs) h.frames));
  call = omega (arith, h.call, u, ap (λ v. length v.items) fs);
}

-- a token that stands is dealt with: it stands behind what stood before
pub stands_taken : (ms : Named) (mode : Mode) (w new : Work) (t : WorkToken) → IsWork (length ms) w None → t.hides ≤ length w.arena
    → head_of ms mode w t ≡ Stands (seen w.arena t) (rest_of w) → new.done.items ≡ w.done.items ++ t ∷ [] → record w { done = new.done } ≡ new
    → Taken ms mode w t new None
unfolding state_of
stands_taken ms mode w new t h x k d e =
    let n = length_row w in
    subst (λ (v : Work). Taken ms mode w t v None) e (record {
      goes = record {
        cost = 0;
        steps = stood ms mode w.arena (length ms) w.floor (length (row_of w)) (row_of w) (row_of w) w.frames.items (seen w.arena t) t w.done.items new.done.items
            (omega (arith, n, h.floor)) (omega arith) (sym (take_all (length (row_of w)) (row_of w) (omega arith))) d h.frames k;
        sum = omega arith;
      };
      kept = record {
        row = h.row;
        tokens = h.tokens;
        done = subst (λ (xs : List WorkToken). AreIn (length w.arena) xs) (sym d) (in_append (length w.arena) w.done.items (t ∷ []) h.done (x, tt));
        floor = h.floor;
        frames = h.frames;
        call = h.call;
      };
      smaller = omega arith;
    })

pub popped_token : (count : ℕ) (ts us : List WorkToken) (t : WorkToken) → ts ≡ us ++ t ∷ [] → AreIn count ts → t.hides ≤ count
popped_token count ts us t e h = (in_back count us (t ∷ []) (subst (λ (xs : List WorkToken). AreIn count xs) e h)).0

pub used_within : (macros : ℕ) (w : Work) (call : Option Call) → IsWork macros w call → w.used ≤ 65536
used_within macros w None h = omega (arith, h.call)
used_within macros w (Some c) h = omega (arith, h.call.1)
