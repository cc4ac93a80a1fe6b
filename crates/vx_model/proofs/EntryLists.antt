-- The entries of a directory's blocks, with one more and with one less: they have a spelling, and they name what the directory names.
use Rattle.std.proofs.Common.{◌≡◌, ◌≢◌, ℕ, ◌+◌, ◌<◌, ◌≤◌, Bool, true, false, cond, not, List, [], ◌∷◌, ◌++◌, length, map, filter, Option, Some, None, refl, sym, ap, subst, ◌∙◌, arith, length-append}
use Rattle.std.specs.Prelude.{◌&&◌, nat_le}
use Rattle.std.specs.List.{AllByRecursion}
use Rattle.std.specs.Str.{bytes_eq}
use Rattle.std.specs.Cmp.Lexicographic.{slice_cmp, nat_list_cmp_total}
use Rattle.std.specs.Ordering.{nat_cmp, eq_by_cmp}
use Rattle.std.specs.FinMap as map
use Rattle.std.specs.FinMap.Entries as entry
use Rattle.std.proofs.lemmas.Bool.{leb-true, true≢false}
use Rattle.std.proofs.lemmas.List.Elements.{filter-append}
use Rattle.std.proofs.lemmas.List.Sums.{sum_by-append}
use Rattle.std.proofs.lemmas.Map.Text.{is_eq-slice_cmp}
use Rattle.std.proofs.lemmas.Slice.Eq.{bytes_eq-Decides}
use Rattle.vx_base.proofs.Maps.{apart}
use Rattle.vx_base.specs.Paths.{FileName, is_name}
use Rattle.vx_base.specs.declared.inode.DirEntry.{DirEntry}
use Rattle.vx_layout.specs.Dirs.{entry_bytes, entries_bytes, IsEntry, IsDir}
use Rattle.vx_model.specs.Layout.{DirectoryBlock, entry_size, used_by, other_name, without_name}
use Rattle.vx_model.specs.LaidOut.{entries_of}
use Rattle.vx_model.specs.Reads.{name_to_inode, entries_from}

-- ---- a spelling

used_first : (e : DirEntry) (es : List DirEntry) → used_by (e ∷ es) ≡ entry_size e + used_by es
used_first e es = omega (arith, sum_by-append entry_size (e ∷ []) es)

used_push : (es : List DirEntry) (e : DirEntry) → used_by (es ++ e ∷ []) ≡ used_by es + entry_size e
used_push es e = omega (arith, sum_by-append entry_size es (e ∷ []))

length-entry : (e : DirEntry) → length (entry_bytes e) ≡ entry_size e
unfolding entry_bytes
length-entry e = omega arith

length-entries : (es : List DirEntry) → length (entries_bytes es) ≡ used_by es
length-entries [] = refl
length-entries (e ∷ es) = omega (arith, length-append (entry_bytes e) (entries_bytes es), length-entry e, length-entries es, used_first e es)

count_below : (es : List DirEntry) → length es ≤ used_by es
count_below [] = omega arith
count_below (e ∷ es) = omega (arith, count_below es, used_first e es)

each_push : (es : List DirEntry) (e : DirEntry) → AllByRecursion IsEntry es → IsEntry e → AllByRecursion IsEntry (es ++ e ∷ [])
each_push [] e all is = (is, tt)
each_push (x ∷ xs) e all is = (all.0, each_push xs e all.1 is)

fits : (es : List DirEntry) → AllByRecursion IsEntry es → used_by es ≤ 1020 → IsDir 1024 es
fits es each low = record { each = each; room = omega (arith, length-entries es); count = omega (arith, count_below es) }

-- an entry more, where there is room
pub push_fits : (es : List DirEntry) (e : DirEntry) → IsDir 1024 es → IsEntry e → nat_le (used_by es + entry_size e) 1020 ≡ true → IsDir 1024 (es ++ e ∷ [])
push_fits es e is entry room = fits (es ++ e ∷ []) (each_push es e is.each entry) (let low = leb-true _ _ room in omega (arith, used_push es e))

-- one entry alone
pub one_fits : (e : DirEntry) → IsEntry e → IsDir 1024 (e ∷ [])
one_fits e entry = fits (e ∷ []) (entry, tt) (let short = entry.name in omega arith)

-- fewer entries
each_by : (b : Bool) (e : DirEntry) (es : List DirEntry) → IsEntry e → AllByRecursion IsEntry es → AllByRecursion IsEntry (cond b (e ∷ es) es)
each_by true e es is all = (is, all)
each_by false e es is all = all

each_filter : (p : DirEntry → Bool) (es : List DirEntry) → AllByRecursion IsEntry es → AllByRecursion IsEntry (filter p es)
each_filter p [] all = tt
each_filter p (e ∷ es) all = each_by (p e) e (filter p es) all.0 (each_filter p es all.1)

used_by_test : (b : Bool) (e : DirEntry) (fewer es : List DirEntry) → used_by fewer ≤ used_by es → used_by (cond b (e ∷ fewer) fewer) ≤ entry_size e + used_by es
used_by_test true e fewer es low = omega (arith, used_first e fewer)
used_by_test false e fewer es low = omega arith

used_filter : (p : DirEntry → Bool) (es : List DirEntry) → used_by (filter p es) ≤ used_by es
used_filter p [] = omega arith
used_filter p (e ∷ es) = let low = used_by_test (p e) e (filter p es) es (used_filter p es) in omega (arith, used_first e es)

pub filter_fits : (p : DirEntry → Bool) (es : List DirEntry) → IsDir 1024 es → IsDir 1024 (filter p es)
filter_fits p es is =
    let room = is.room in
    fits (filter p es) (each_filter p es is.each) (omega (arith, length-entries es, used_filter p es))

second : (a b c : Bool) → (a && (b && c)) ≡ true → b ≡ true
second true true c h = refl
second true false c h = absurd cc
second false b c h = absurd cc

pub short_name : (name : FileName) → is_name name ≡ true → length name < 256
short_name name h =
    let low : length name ≤ 255 = leb-true _ _ (second (nat_le 1 (length name)) (nat_le (length name) 255) _ h) in
    omega arith

-- ---- what they name

abbrev same_name : FileName → FileName → Bool
same_name = eq_by_cmp (slice_cmp nat_cmp)

name_is : (a b : FileName) → same_name a b ≡ true → a ≡ b
name_is a b h = (bytes_eq-Decides a b).0 (sym (is_eq-slice_cmp a b) ∙ h)

names_apart : (a b : FileName) → a ≢ b → same_name a b ≡ false
names_apart a b ne = apart (slice_cmp nat_cmp) (map.slice_cmp-IsAntisymmetric map.nat_cmp-IsAntisymmetric) a b ne

abbrev found : FileName → List DirEntry → Option ℕ
found q es = entry.find (slice_cmp nat_cmp) q (map name_to_inode es)

-- an entry more under a new name, at any place
none_parts : (t : Bool) (x : ℕ) (o : Option ℕ) → cond t (Some x) o ≡ None → (t ≡ false) × (o ≡ None)
none_parts true x o h = absurd cc
none_parts false x o h = (refl, h)

either_first : (t u : Bool) (x y : Option ℕ) (o : Option ℕ) → (t ≡ true → u ≡ false) → cond t x (cond u y o) ≡ cond u y (cond t x o)
either_first true true x y o h = absurd (true≢false (h refl))
either_first true false x y o h = refl
either_first false u x y o h = refl

found_inserted : (q : FileName) (e : DirEntry) (pre post : List DirEntry) → found e.name (pre ++ post) ≡ None → found q (pre ++ e ∷ post) ≡ cond (same_name q e.name) (Some e.ino) (found q (pre ++ post))
found_inserted q e [] post free = refl
found_inserted q e (x ∷ pre) post free =
    let two = none_parts (same_name e.name x.name) x.ino (found e.name (pre ++ post)) free in
    ap (cond (same_name q x.name) (Some x.ino)) (found_inserted q e pre post two.1)
    ∙ either_first (same_name q x.name) (same_name q e.name) (Some x.ino) (Some e.ino) (found q (pre ++ post))
    (λ h. names_apart q e.name (λ same. true≢false (sym (subst (λ (k : FileName). same_name k x.name ≡ true) same h) ∙ two.0)))

pub inserted_names : (pre post : List DirEntry) (e : DirEntry) → map.get (entries_from (pre ++ post)) e.name ≡ None → entries_from (pre ++ e ∷ post) ≡ map.insert (entries_from (pre ++ post)) e.name e.ino
inserted_names pre post e free =
    map.same_map nat_list_cmp_total (map.slice_cmp-IsAntisymmetric map.nat_cmp-IsAntisymmetric) _ _ (λ q.
    map.get-from_entries nat_list_cmp_total (map name_to_inode (pre ++ e ∷ post)) q
    ∙ found_inserted q e pre post (sym (map.get-from_entries nat_list_cmp_total (map name_to_inode (pre ++ post)) e.name) ∙ free)
    ∙ ap (cond (same_name q e.name) (Some e.ino)) (sym (map.get-from_entries nat_list_cmp_total (map name_to_inode (pre ++ post)) q))
    ∙ sym (map.get-insert nat_list_cmp_total (entries_from (pre ++ post)) e.name e.ino q))

-- an entry that goes isn't found under its name
gone : (a b : Bool) (x : Option ℕ) (o : Option ℕ) → (a ≡ true → b ≡ true) → cond b None o ≡ cond b None (cond a x o)
gone true true x o h = refl
gone true false x o h = absurd (true≢false (sym (h refl)))
gone false b x o h = refl

-- an entry that stays is found as before
stays : (a b : Bool) (x o : Option ℕ) → (a ≡ true → b ≡ false) → cond a x (cond b None o) ≡ cond b None (cond a x o)
stays true true x o h = absurd (true≢false (h refl))
stays true false x o h = refl
stays false b x o h = refl

found_by : (q name : FileName) (e : DirEntry) (es : List DirEntry) (t : Bool) → bytes_eq e.name name ≡ t
    → found q (filter (other_name name) es) ≡ cond (same_name q name) None (found q es)
    → found q (cond (not t) (e ∷ filter (other_name name) es) (filter (other_name name) es)) ≡ cond (same_name q name) None (found q (e ∷ es))
found_by q name e es true is rest =
    rest ∙ gone (same_name q e.name) (same_name q name) (Some e.ino) (found q es)
    (λ h. subst (λ (k : FileName). same_name q k ≡ true) ((bytes_eq-Decides e.name name).0 is) h)
found_by q name e es false is rest =
    ap (cond (same_name q e.name) (Some e.ino)) rest
    ∙ stays (same_name q e.name) (same_name q name) (Some e.ino) (found q es)
    (λ h. names_apart q name (λ same. true≢false (sym ((bytes_eq-Decides e.name name).1 (sym (name_is q e.name h) ∙ same)) ∙ is)))

found_without : (q name : FileName) (es : List DirEntry) → found q (filter (other_name name) es) ≡ cond (same_name q name) None (found q es)
found_without q name [] = elim (same_name q name) as (λ b. ◌≡◌ {A = Option ℕ} None (cond b None None)) [ true ↦ refl | false ↦ refl ]
found_without q name (e ∷ es) = found_by q name e es (bytes_eq e.name name) refl (found_without q name es)

pub removed_names : (es : List DirEntry) (name : FileName) → entries_from (filter (other_name name) es) ≡ map.remove (entries_from es) name
removed_names es name =
    map.same_map nat_list_cmp_total (map.slice_cmp-IsAntisymmetric map.nat_cmp-IsAntisymmetric) _ _ (λ q.
    map.get-from_entries nat_list_cmp_total (map name_to_inode (filter (other_name name) es)) q
    ∙ found_without q name es
    ∙ ap (cond (same_name q name) None) (sym (map.get-from_entries nat_list_cmp_total (map name_to_inode es) q))
    ∙ sym (map.get-remove nat_list_cmp_total (entries_from es) name q))

pub entries_without : (name : FileName) (ds : List DirectoryBlock) → entries_of (map (without_name name) ds) ≡ filter (other_name name) (entries_of ds)
entries_without name [] = refl
entries_without name (d ∷ ds) =
    ap (λ es. filter (other_name name) d.entries ++ es) (entries_without name ds)
    ∙ sym (filter-append (other_name name) d.entries (entries_of ds))
