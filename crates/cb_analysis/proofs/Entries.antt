-- Platforms one after another.
use Rattle.std.proofs.Common.{◌≡◌, ℕ, zero, suc, IsTrue, ◌<◌, ◌≤◌, true, false, List, [], ◌∷◌, ◌++◌, length, Option, Some, None, refl, ap, arith, String, string_bytes, Less, codes, option_map, nat_lt, nat_le}
use Rattle.std.proofs.lemmas.Bool.{false≢true, lt-ltb, le-leb, lt-leb}
use Rattle.std.specs.String.{string_cmp}
use Rattle.std.specs.Map.{keys_of}
use Rattle.std.specs.declared.alloc.Global.{Global}
use Rattle.toml.specs.declared.value.Value.{Value}
use Rattle.toml.specs.View.{view, members_view}
use Rattle.cb_analysis.specs.Analyses.{platform_of, names_of, ArePlatforms}
use Rattle.cb_analysis.specs.declared.platform.Platform.{Platform}
use Rattle.std.specs.List.{filter_map, flat_map, cons_option, AllByRecursion}
use Rattle.std.specs.List.Sorted.{IsStrictlySortedBy}
use Rattle.std.specs.Ordering.{nat_cmp}
use Rattle.std.specs.Cmp.Lexicographic.{slice_cmp}
use Rattle.cb_paths.specs.Paths.{path_of, path_fault}
use Rattle.cb_paths.specs.declared.bad_path.BadPath.{BadPath as Fault}
use Rattle.cb_paths.specs.Names.{is_name}
use Rattle.toml.specs.Data.{Data, Members, get, as_str, as_table}
use Rattle.cb_analysis.specs.Tables.{is_table, entries_of, entries_in, platform_at}
use Rattle.cb_analysis.specs.Faults.{first_of, platforms_faults, Tells, platform_faults, in_platform, commands_path}
use Rattle.cb_analysis.specs.declared.fault.AnalysisKind.TheVariants.{BadPath, TooMany}
use Rattle.cb_analysis.specs.declared.fault.BadAnalysis.{BadAnalysis}
use Rattle.cb_analysis.specs.declared.fault.AnalysisFault.{AnalysisFault}
use Rattle.cb_analysis.specs.declared.fault.AnalysisFault.TheVariants.{Bad, NoMemory}

pub no_path : (text : List ℕ) (bad : Fault) → path_fault text ≡ Some bad → path_of text ≡ None
unfolding path_of
no_path text bad h = rw h refl

-- the first fault of two lists of faults

pub first_behind : (fs gs : List (Option BadAnalysis)) → first_of fs ≡ None → first_of (fs ++ gs) ≡ first_of gs
first_behind [] gs h = refl
first_behind (None ∷ fs) gs h = first_behind fs gs h
first_behind (Some bad ∷ fs) gs h = cc

pub first_in_front : (fs gs : List (Option BadAnalysis)) (bad : BadAnalysis) → first_of fs ≡ Some bad → first_of (fs ++ gs) ≡ Some bad
first_in_front [] gs bad h = cc
first_in_front (None ∷ fs) gs bad h = first_in_front fs gs bad h
first_in_front (Some b ∷ fs) gs bad h = h

pub tells_in_front : (e : AnalysisFault) (fs gs : List (Option BadAnalysis)) → Tells e (first_of fs) → Tells e (first_of (fs ++ gs))
tells_in_front (Bad bad) fs gs h = first_in_front fs gs bad h
tells_in_front NoMemory fs gs h = h

pub tells_behind : (e : AnalysisFault) (fs gs : List (Option BadAnalysis)) → first_of fs ≡ None → Tells e (first_of gs) → Tells e (first_of (fs ++ gs))
tells_behind e fs gs none h = rw (first_behind fs gs none) h

-- a platform with commands that are no path
pub bad_path : (name text : List ℕ) (d value : Data) (e : AnalysisFault) → is_name name ≡ true → is_table d ≡ true
    → Some value ≡ get (codes "commands") d → Some text ≡ as_str value → path_of text ≡ None
    → Tells e (Some (record { kind = BadPath; place = in_platform name (codes ".commands") })) → Tells e (first_of (platform_faults (name, d)))
bad_path name text d value e n t c s p h = rw (n, t, ← c, ← s, p) h

-- platforms rise by their names as the keys of their table do

all_case : (name other : List ℕ) (path : Option (List ℕ)) (ps : List Platform) → slice_cmp nat_cmp name other ≡ Less
    → AllByRecursion (λ n. slice_cmp nat_cmp name n ≡ Less) (names_of ps)
    → AllByRecursion (λ n. slice_cmp nat_cmp name n ≡ Less) (names_of (cons_option (option_map (λ commands. record { name = other; commands = commands }) path) ps))
all_case name other None ps h all = all
all_case name other (Some path) ps h all = (h, all)

all_above : (name : List ℕ) (ms : List (String Global × Value)) → AllByRecursion (λ s. slice_cmp nat_cmp name (string_bytes s) ≡ Less) (keys_of ms)
    → AllByRecursion (λ n. slice_cmp nat_cmp name n ≡ Less) (names_of (filter_map platform_of (entries_of (members_view ms))))
all_above name [] h = tt
all_above name (m ∷ ms) h = all_case name (string_bytes m.0) (commands_path (view m.1)) _ h.0 (all_above name ms h.1)

rising_case : (name : List ℕ) (path : Option (List ℕ)) (ps : List Platform)
    → AllByRecursion (λ n. slice_cmp nat_cmp name n ≡ Less) (names_of ps) → IsStrictlySortedBy (slice_cmp nat_cmp) (names_of ps)
    → IsStrictlySortedBy (slice_cmp nat_cmp) (names_of (cons_option (option_map (λ commands. record { name = name; commands = commands }) path) ps))
unfolding IsStrictlySortedBy
rising_case name None ps all sorted = sorted
rising_case name (Some path) ps all sorted = (all, sorted)

rising : (ms : List (String Global × Value)) → IsStrictlySortedBy string_cmp (keys_of ms)
    → IsStrictlySortedBy (slice_cmp nat_cmp) (names_of (filter_map platform_of (entries_of (members_view ms))))
unfolding IsStrictlySortedBy
rising [] h = tt
rising (m ∷ ms) h = rising_case (string_bytes m.0) (commands_path (view m.1)) _ (all_above (string_bytes m.0) ms h.0) (rising ms h.1)

-- no more platforms than entries
option_length : {X : Type 0} (o : Option X) (xs : List X) (n : ℕ) → length xs ≤ n → length (cons_option o xs) ≤ suc n
option_length None xs n h = omega arith
option_length (Some x) xs n h = omega arith

length_platforms : (es : List (List ℕ × Data)) → length (filter_map platform_of es) ≤ length es
length_platforms [] = omega arith
length_platforms (e ∷ es) = option_length (platform_of e) (filter_map platform_of es) (length es) (length_platforms es)

length_entries : (ms : List (String Global × Value)) → length (entries_of (members_view ms)) ≡ length ms
length_entries [] = refl
length_entries (m ∷ ms) = ap suc (length_entries ms)

pub are_platforms : (platforms : List Platform) (ms : List (String Global × Value)) → filter_map platform_of (entries_of (members_view ms)) ≡ platforms
    → IsStrictlySortedBy string_cmp (keys_of ms) → length ms ≤ 32 → ArePlatforms platforms
are_platforms platforms ms is sorted few =
    let fewer : length platforms ≤ length (entries_of (members_view ms)) = rw (← is) (length_platforms (entries_of (members_view ms))) in
    let same : length (entries_of (members_view ms)) ≡ length ms = length_entries ms in
    record { rising = rw (← is) (rising ms sorted); few = omega arith }

-- the faults of a table `platform` with some entries, and not too many
pub platforms_pass : (t : Members) (d : Data) (ms : List (String Global × Value)) → Some d ≡ platform_at t → Some (members_view ms) ≡ as_table d
    → 0 < length ms → length ms ≤ 32 → first_of (platforms_faults t) ≡ first_of (flat_map platform_faults (entries_of (members_view ms)))
platforms_pass t d ms there is some few =
    let not_empty : nat_lt 0 (length (entries_of (members_view ms))) ≡ true = lt-ltb 0 _ (rw (length_entries ms) some) in
    let not_many : nat_le (length (entries_of (members_view ms))) 32 ≡ true = le-leb _ 32 (rw (length_entries ms) few) in
    rw (← there, ← is, not_empty, not_many) refl

pub platforms_too_many : (t : Members) (d : Data) (ms : List (String Global × Value)) → Some d ≡ platform_at t → Some (members_view ms) ≡ as_table d
    → 32 < length ms → first_of (platforms_faults t) ≡ Some (record { kind = TooMany; place = codes "platform" })
platforms_too_many t d ms there is many =
    let not_empty : nat_lt 0 (length (entries_of (members_view ms))) ≡ true = lt-ltb 0 _ (rw (length_entries ms) (omega arith)) in
    let too_many : nat_le (length (entries_of (members_view ms))) 32 ≡ false = lt-leb _ 32 (rw (length_entries ms) many) in
    rw (← there, ← is, not_empty, too_many) refl

pub platforms_in : (t : Members) (d : Data) (ms : List (String Global × Value)) → Some d ≡ platform_at t → Some (members_view ms) ≡ as_table d
    → filter_map platform_of (entries_of (members_view ms)) ≡ filter_map platform_of (entries_in (platform_at t))
platforms_in t d ms there is = rw (← there, ← is) refl

pub positive : (n : ℕ) → (n ≡ 0 → IsTrue false) → 0 < n
positive zero h = absurd (false≢true (h refl))
positive (suc n) h = omega arith

-- a fault of the first part of a list, or of a later one

pub tells_first : (e : AnalysisFault) (u : Option BadAnalysis) (rest : List (Option BadAnalysis)) → Tells e u → Tells e (first_of (u ∷ rest))
tells_first (Bad bad) None rest h = cc
tells_first (Bad bad) (Some b) rest h = h
tells_first NoMemory u rest h = h

pub tells_next : (e : AnalysisFault) (u : Option BadAnalysis) (rest : List (Option BadAnalysis)) → u ≡ None → Tells e (first_of rest) → Tells e (first_of (u ∷ rest))
tells_next e u rest none h = rw none h

pub first_next : (u : Option BadAnalysis) (rest : List (Option BadAnalysis)) → u ≡ None → first_of (u ∷ rest) ≡ first_of rest
first_next u rest none = rw none refl
