-- Entries whose names are legal and distinct: one more, fewer, and what they mean.
use Rattle.std.proofs.Common.{◌≡◌, ℕ, suc, ◌+◌, Bool, true, false, cond, List, [], ◌∷◌, ◌++◌, length, map, filter, Option, Some, None, refl, sym, ap, ◌∙◌, arith, append_assoc}
use Rattle.std.specs.Prelude.{◌||◌, ◌==◌, is_some, bytes_eq, Contains}
use Rattle.std.specs.List.{count_by}
use Rattle.std.specs.declared.cmp.Ordering.{Ordering}
use Rattle.std.specs.declared.cmp.Ordering.TheVariants.{Less, Equal, Greater}
use Rattle.std.specs.Ordering.{nat_cmp, eq_by_cmp, is_eq}
use Rattle.std.specs.Cmp.Lexicographic.{slice_cmp, nat_list_cmp_total}
use Rattle.std.specs.FinMap as map
use Rattle.std.specs.FinMap.Entries.{by_order, find, put}
use Rattle.std.proofs.lemmas.Bool.{true≢false, false_from_ne_true, not-true, or_parts, or_from, or_left, or_right}
use Rattle.std.proofs.lemmas.List.Folds.{list_any-append}
use Rattle.std.proofs.lemmas.List.Sums.{sum_by-cons}
use Rattle.std.proofs.lemmas.Map.Text.{is_eq-slice_cmp}
use Rattle.std.proofs.lemmas.Slice.Eq.{bytes_eq-Decides}
use Rattle.vx_base.specs.Paths.{FileName}
use Rattle.vx_base.specs.declared.inode.DirEntry.{DirEntry}
use Rattle.vx_sound.specs.Facts.{is_legal, is_name_among, AreNamesRight}
use Rattle.vx_model.specs.Tree.{Entries}
use Rattle.vx_model.specs.Layout.{other_name}
use Rattle.vx_model.specs.Reads.{name_to_inode, entries_from}

pub among_append : (x : FileName) (xs ys : List DirEntry) → is_name_among x (xs ++ ys) ≡ (is_name_among x xs || is_name_among x ys)
among_append x xs ys = list_any-append (λ (e : DirEntry). bytes_eq x e.name) xs ys

apart_also : (a b : FileName) → bytes_eq a b ≡ false → bytes_eq b a ≡ false
apart_also a b h = false_from_ne_true (bytes_eq b a) (λ same. true≢false (sym ((bytes_eq-Decides a b).1 (sym ((bytes_eq-Decides b a).0 same))) ∙ h))

pushed_absent : (before after : List DirEntry) (e : DirEntry) (x : FileName) → (is_name_among x before ≡ false → is_name_among x after ≡ false) → is_name_among x (before ++ e ∷ []) ≡ false → is_name_among x (after ++ e ∷ []) ≡ false
pushed_absent before after e x kept h =
    let two = or_parts (is_name_among x before) (is_name_among x (e ∷ [])) (sym (among_append x before (e ∷ [])) ∙ h) in
    among_append x after (e ∷ []) ∙ or_from (is_name_among x after) (is_name_among x (e ∷ [])) (kept two.0) two.1

-- ---- an entry more

-- only this name more stands among the second
abbrev Wider : FileName → List DirEntry → List DirEntry → Type 0
Wider name before wider = (x : FileName) → bytes_eq x name ≡ false → is_name_among x before ≡ false → is_name_among x wider ≡ false

wider_by : (name : FileName) (before wider es : List DirEntry) → Wider name before wider → is_name_among name es ≡ false → AreNamesRight before es → AreNamesRight wider es
wider_by name before wider [] more new h = tt
wider_by name before wider (e ∷ es) more new h =
    let two = or_parts (bytes_eq name e.name) (is_name_among name es) new in
    (h.0, more e.name (apart_also name e.name two.0) h.1, wider_by name (before ++ e ∷ []) (wider ++ e ∷ []) es (λ x other. pushed_absent before wider e x (more x other)) two.1 h.2)

wider_push : (before : List DirEntry) (e : DirEntry) → Wider e.name before (before ++ e ∷ [])
wider_push before e x other none = among_append x before (e ∷ []) ∙ or_from (is_name_among x before) (is_name_among x (e ∷ [])) none (or_from (bytes_eq x e.name) false other refl)

insert_by : (before pre post : List DirEntry) (e : DirEntry) → AreNamesRight before (pre ++ post) → is_legal e.name ≡ true → is_name_among e.name (before ++ (pre ++ post)) ≡ false → AreNamesRight before (pre ++ e ∷ post)
insert_by before [] post e h legal new =
    let two = or_parts (is_name_among e.name before) (is_name_among e.name post) (sym (among_append e.name before post) ∙ new) in
    (legal, two.0, wider_by e.name before (before ++ e ∷ []) post (wider_push before e) two.1 h)
insert_by before (x ∷ pre) post e h legal new =
    (h.0, h.1, insert_by (before ++ x ∷ []) pre post e h.2 legal (ap (is_name_among e.name) (append_assoc before (x ∷ []) (pre ++ post)) ∙ new))

-- a new legal name, at any place
pub insert_right : (pre post : List DirEntry) (e : DirEntry) → AreNamesRight [] (pre ++ post) → is_legal e.name ≡ true → is_name_among e.name (pre ++ post) ≡ false → AreNamesRight [] (pre ++ e ∷ post)
insert_right pre post e h legal new = insert_by [] pre post e h legal new

-- ---- fewer entries

fewer_by : (t : Bool) (x : FileName) (e : DirEntry) (fewer : List DirEntry) → bytes_eq x e.name ≡ false → is_name_among x fewer ≡ false → is_name_among x (cond t (e ∷ fewer) fewer) ≡ false
fewer_by true x e fewer first rest = or_from (bytes_eq x e.name) (is_name_among x fewer) first rest
fewer_by false x e fewer first rest = rest

pub filter_absent : (p : DirEntry → Bool) (x : FileName) (es : List DirEntry) → is_name_among x es ≡ false → is_name_among x (filter p es) ≡ false
filter_absent p x [] h = refl
filter_absent p x (e ∷ es) h =
    let two = or_parts (bytes_eq x e.name) (is_name_among x es) h in
    fewer_by (p e) x e (filter p es) two.0 (filter_absent p x es two.1)

-- what stands among the second stood among the first
abbrev Fewer : List DirEntry → List DirEntry → Type 0
Fewer before fewer = (x : FileName) → is_name_among x before ≡ false → is_name_among x fewer ≡ false

fewer_push : (before fewer : List DirEntry) (e : DirEntry) → Fewer before fewer → Fewer (before ++ e ∷ []) (fewer ++ e ∷ [])
fewer_push before fewer e less x h = pushed_absent before fewer e x (less x) h

fewer_drop : (before fewer : List DirEntry) (e : DirEntry) → Fewer before fewer → Fewer (before ++ e ∷ []) fewer
fewer_drop before fewer e less x h = less x (or_parts (is_name_among x before) (is_name_among x (e ∷ [])) (sym (among_append x before (e ∷ [])) ∙ h)).0

kept_by : (t : Bool) (fewer rest : List DirEntry) (e : DirEntry) → is_legal e.name ≡ true → is_name_among e.name fewer ≡ false → AreNamesRight (fewer ++ e ∷ []) rest → AreNamesRight fewer rest
    → AreNamesRight fewer (cond t (e ∷ rest) rest)
kept_by true fewer rest e legal new with_it without = (legal, new, with_it)
kept_by false fewer rest e legal new with_it without = without

filter_by : (p : DirEntry → Bool) (before fewer es : List DirEntry) → Fewer before fewer → AreNamesRight before es → AreNamesRight fewer (filter p es)
filter_by p before fewer [] less h = tt
filter_by p before fewer (e ∷ es) less h =
    kept_by (p e) fewer (filter p es) e h.0 (less e.name h.1)
    (filter_by p (before ++ e ∷ []) (fewer ++ e ∷ []) es (fewer_push before fewer e less) h.2)
    (filter_by p (before ++ e ∷ []) fewer es (fewer_drop before fewer e less) h.2)

pub filter_right : (p : DirEntry → Bool) (es : List DirEntry) → AreNamesRight [] es → AreNamesRight [] (filter p es)
filter_right p es h = filter_by p [] [] es (λ x none. none) h

not_same : (name : FileName) (e : DirEntry) → other_name name e ≡ true → bytes_eq name e.name ≡ false
not_same name e h = apart_also e.name name (not-true (bytes_eq e.name name) h)

without_by : (name : FileName) (e : DirEntry) (rest : List DirEntry) (t : Bool) → other_name name e ≡ t → is_name_among name rest ≡ false → is_name_among name (cond t (e ∷ rest) rest) ≡ false
without_by name e rest true h r = or_from (bytes_eq name e.name) (is_name_among name rest) (not_same name e h) r
without_by name e rest false h r = r

-- a name that was taken out
pub taken_absent : (name : FileName) (es : List DirEntry) → is_name_among name (filter (other_name name) es) ≡ false
taken_absent name [] = refl
taken_absent name (e ∷ es) = without_by name e (filter (other_name name) es) (other_name name e) refl (taken_absent name es)

-- ---- distinct names

-- a name that stands before doesn't stand later
later_absent : (before es : List DirEntry) (a : FileName) → AreNamesRight before es → is_name_among a before ≡ true → is_name_among a es ≡ false
later_absent before [] a h there = refl
later_absent before (e ∷ es) a h there =
    or_from (bytes_eq a e.name) (is_name_among a es)
    (false_from_ne_true (bytes_eq a e.name) (λ same. true≢false (sym there ∙ ap (λ (x : FileName). is_name_among x before) ((bytes_eq-Decides a e.name).0 same) ∙ h.1)))
    (later_absent (before ++ e ∷ []) es a h.2 (among_append a before (e ∷ []) ∙ or_left (is_name_among a before) (is_name_among a (e ∷ [])) there))

-- the first name doesn't stand again
first_once : (before es : List DirEntry) (e : DirEntry) → AreNamesRight before (e ∷ es) → is_name_among e.name es ≡ false
first_once before es e h =
    later_absent (before ++ e ∷ []) es e.name h.2
    (among_append e.name before (e ∷ []) ∙ or_right (is_name_among e.name before) (is_name_among e.name (e ∷ [])) (or_left (bytes_eq e.name e.name) false ((bytes_eq-Decides e.name e.name).1 refl)))

-- ---- what the names mean

abbrev pub names_cmp : FileName → FileName → Ordering
names_cmp = slice_cmp nat_cmp

abbrev found : FileName → List DirEntry → Option ℕ
found x es = find names_cmp x (map name_to_inode es)

get_found : (x : FileName) (es : List DirEntry) → map.get (entries_from es) x ≡ found x es
get_found x es = map.get-from_entries nat_list_cmp_total (map name_to_inode es) x

some_by : (t : Bool) (n : ℕ) (o : Option ℕ) → is_some (cond t (Some n) o) ≡ (t || is_some o)
some_by true n o = refl
some_by false n o = refl

found_among : (x : FileName) (es : List DirEntry) → is_some (found x es) ≡ is_name_among x es
found_among x [] = refl
found_among x (e ∷ es) =
    ap (λ t. is_some (cond t (Some e.ino) (found x es))) (is_eq-slice_cmp x e.name) ∙ some_by (bytes_eq x e.name) e.ino (found x es)
    ∙ ap (λ t. bytes_eq x e.name || t) (found_among x es)

none_is : (o : Option ℕ) → is_some o ≡ false → o ≡ None
none_is None h = refl
none_is (Some n) h = absurd cc

-- a name means nothing exactly where it isn't there
pub absent_none : (x : FileName) (es : List DirEntry) → is_name_among x es ≡ false → map.get (entries_from es) x ≡ None
absent_none x es h = get_found x es ∙ none_is (found x es) (found_among x es ∙ h)

pub none_absent : (x : FileName) (es : List DirEntry) → map.get (entries_from es) x ≡ None → is_name_among x es ≡ false
none_absent x es h = sym (found_among x es) ∙ ap is_some (sym (get_found x es) ∙ h)

abbrev inode_numbers : List DirEntry → List ℕ
inode_numbers es = map (λ (e : DirEntry). e.ino) es

contains_later : (x : ℕ) (xs : List ℕ) (y : ℕ) → Contains xs y → Contains (x ∷ xs) y
contains_later x xs y h = (suc h.0, (let less = h.1 in omega arith), h.2)

contains_by : (x : FileName) (e : DirEntry) (es : List DirEntry) (n : ℕ) (t : Bool) → (found x es ≡ Some n → Contains (inode_numbers es) n) → cond t (Some e.ino) (found x es) ≡ Some n → Contains (inode_numbers (e ∷ es)) n
contains_by x e es n true rest h = let same : e.ino ≡ n = cc in (0, omega arith, same)
contains_by x e es n false rest h = contains_later e.ino (inode_numbers es) n (rest h)

found_contains : (x : FileName) (es : List DirEntry) (n : ℕ) → found x es ≡ Some n → Contains (inode_numbers es) n
found_contains x [] n h = absurd cc
found_contains x (e ∷ es) n h = contains_by x e es n (eq_by_cmp names_cmp x e.name) (found_contains x es n) h

-- what a name means, an entry says
pub meaning_contained : (x : FileName) (es : List DirEntry) (n : ℕ) → map.get (entries_from es) x ≡ Some n → Contains (inode_numbers es) n
meaning_contained x es n h = found_contains x es n (sym (get_found x es) ∙ h)

-- ---- how many names mean an inode

abbrev pub meaning : ℕ → List (FileName × ℕ) → ℕ
meaning i es = count_by (λ v. v == i) (map (λ e. e.1) es)

abbrev pub naming : ℕ → List DirEntry → ℕ
naming i es = count_by (λ (e : DirEntry). e.ino == i) es

abbrev pub one : ℕ → ℕ → ℕ
one v i = cond (v == i) 1 0

pub meaning_first : (i : ℕ) (e : FileName × ℕ) (es : List (FileName × ℕ)) → meaning i (e ∷ es) ≡ one e.1 i + meaning i es
meaning_first i e es = sum_by-cons (λ v. cond (v == i) 1 0) e.1 (map (λ x. x.1) es)

pub naming_first : (i : ℕ) (e : DirEntry) (es : List DirEntry) → naming i (e ∷ es) ≡ one e.ino i + naming i es
naming_first i e es = sum_by-cons (λ (x : DirEntry). cond (x.ino == i) 1 0) e es

swapped : (all a b c d more : ℕ) → a ≡ b + c → all ≡ d + a → more ≡ d + c → all ≡ b + more
swapped all a b c d more e f g = omega arith

put_by : (i : ℕ) (k : FileName) (v : ℕ) (e : FileName × ℕ) (es : List (FileName × ℕ)) (r : Ordering) → cond (is_eq r) (Some e.1) (find names_cmp k es) ≡ None
    → (find names_cmp k es ≡ None → meaning i (put names_cmp k v es) ≡ one v i + meaning i es)
    → meaning i (by_order r ((k, v) ∷ e ∷ es) ((e.0, v) ∷ es) (e ∷ put names_cmp k v es)) ≡ one v i + meaning i (e ∷ es)
put_by i k v e es Less none rest = meaning_first i (k, v) (e ∷ es)
put_by i k v e es Equal none rest = absurd cc
put_by i k v e es Greater none rest =
    swapped (meaning i (e ∷ put names_cmp k v es)) (meaning i (put names_cmp k v es)) (one v i) (meaning i es) (one e.1 i) (meaning i (e ∷ es))
    (rest none) (meaning_first i e (put names_cmp k v es)) (meaning_first i e es)

put_counts : (i : ℕ) (k : FileName) (v : ℕ) (es : List (FileName × ℕ)) → find names_cmp k es ≡ None → meaning i (put names_cmp k v es) ≡ one v i + meaning i es
put_counts i k v [] none = meaning_first i (k, v) []
put_counts i k v (e ∷ es) none = put_by i k v e es (names_cmp k e.0) none (put_counts i k v es)

insert_counts : (i : ℕ) (m : Entries) (k : FileName) (v : ℕ) → map.get m k ≡ None → meaning i (map.entries (map.insert m k v)) ≡ one v i + meaning i (map.entries m)
insert_counts i m k v none = ap (meaning i) (map.entries-insert nat_list_cmp_total m k v) ∙ put_counts i k v (map.entries m) (sym (map.get-entries m k) ∙ none)

pub none_mean : (i : ℕ) (es : List (FileName × ℕ)) → length es ≡ 0 → meaning i es ≡ 0
none_mean i [] h = refl
none_mean i (e ∷ es) h = absurd (omega arith)

-- the names of a directory are counted alike by its map and by its entries
pub counted_alike : (i : ℕ) (before es : List DirEntry) → AreNamesRight before es → meaning i (map.entries (entries_from es)) ≡ naming i es
counted_alike i before [] h = none_mean i (map.entries (map.empty {X = ℕ} {R = slice_cmp nat_cmp})) (sym (map.len-entries (map.empty {X = ℕ} {R = slice_cmp nat_cmp})) ∙ map.len-empty (slice_cmp nat_cmp) ℕ)
counted_alike i before (e ∷ es) h =
    insert_counts i (entries_from es) e.name e.ino (absent_none e.name es (first_once before es e h))
    ∙ ap (λ k. one e.ino i + k) (counted_alike i (before ++ e ∷ []) es h.2)
    ∙ sym (naming_first i e es)
