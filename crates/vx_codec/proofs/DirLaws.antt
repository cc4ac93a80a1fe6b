-- What is spelled as a directory block is read again.
use Rattle.std.proofs.Common.{◌≡◌, ◌≢◌, ◌⊎◌, inr, Result, Ok, Err, ℕ, suc, ◌+◌, ◌-◌, ◌<◌, ◌≤◌, true, false, List, [], ◌∷◌, ◌++◌, length, replicate, take, drop, get_or, Option, Some, None, refl, sym, ap, subst, ◌∙◌, arith, append_assoc, length-append, length-drop, length-take}
use Rattle.std.specs.Prelude.{nat_lt, All}
use Rattle.std.specs.Int.{w16, w32}
use Rattle.std.specs.Str.{bytes_eq}
use Rattle.std.specs.Result.{IsErrAnd}
use Rattle.std.proofs.Math.Seq.{take-length}
use Rattle.vx_codec.specs.declared.directory.DirReadRefusal.{DirReadRefusal}
use Rattle.vx_codec.specs.declared.directory.DirReadRefusal.TheVariants.{Bad, NoMemory}
use Rattle.std.specs.Option.{option_map, option_and_then}
use Rattle.std.specs.List.{AllByRecursion}
use Rattle.std.proofs.lemmas.Bool.{le-ltb, lt-ltb}
use Rattle.std.proofs.lemmas.List.Elements.{All-nil, All-cons}
use Rattle.std.proofs.lemmas.Slice.Eq.{bytes_eq-Decides}
use Rattle.std.proofs.lemmas.List.{take_at, drop_at, drop-drop, append-nil, length-replicate}
use Rattle.std.proofs.lemmas.Nat.{from_le_bytes-to_le_bytes_2, from_le_bytes-to_le_bytes_4}
use Rattle.vx_base.specs.declared.inode.DirEntry.{DirEntry}
use Rattle.vx_layout.specs.Fields.{number_at}
use Rattle.vx_codec.proofs.Entries.{length-entry}
use Rattle.vx_layout.specs.Dirs.{entry_bytes, entries_bytes, dir_bytes, entry_at, entries_at, dir_at, IsEntry, IsDir}

entry_again : (e : DirEntry) (rest : List ℕ) → IsEntry e → entry_at (entry_bytes e ++ rest) ≡ Some (e, rest)
unfolding entry_at entry_bytes number_at
entry_again e rest fits =
    let long : nat_lt (length (e.name ++ rest)) (length e.name) ≡ false = le-ltb _ _ (omega (arith, length-append e.name rest)) in
    let some : nat_lt (length (entry_bytes e ++ rest)) 5 ≡ false = le-ltb _ _ (omega (arith, length-append e.name rest)) in
    rw (some, long, take_at e.name rest (length e.name) refl, drop_at e.name rest (length e.name) refl, from_le_bytes-to_le_bytes_4 e.ino fits.ino) refl

pub entries_again : (es : List DirEntry) (rest : List ℕ) → AllByRecursion IsEntry es → entries_at (length es) (entries_bytes es ++ rest) ≡ Some es
unfolding entries_at
entries_again [] rest fits = refl
entries_again (e ∷ es) rest fits =
    let grouped = append_assoc (entry_bytes e) (entries_bytes es) rest in
    ap (entries_at (suc (length es))) grouped
    ∙ ap (λ o. option_and_then (λ x. option_map (λ xs. x.0 ∷ xs) (entries_at (length es) x.1)) o) (entry_again e (entries_bytes es ++ rest) fits.0)
    ∙ ap (option_map (λ xs. e ∷ xs)) (entries_again es rest fits.1)

pub dir_again : (size : ℕ) (es : List DirEntry) → IsDir size es → dir_at (dir_bytes size es) ≡ Some es
unfolding dir_at dir_bytes number_at
dir_again size es is =
    let count = from_le_bytes-to_le_bytes_2 (length es) is.count in
    ap (λ n. entries_at n (entries_bytes es ++ replicate (size - (4 + length (entries_bytes es))) 0)) count
    ∙ entries_again es (replicate (size - (4 + length (entries_bytes es))) 0) is.each

same_some : (x y : List DirEntry) → Some x ≡ Some y → x ≡ y
same_some x y e = cc

pub dir_unique : (size : ℕ) (xs ys : List DirEntry) → IsDir size xs → IsDir size ys → dir_bytes size xs ≡ dir_bytes size ys → xs ≡ ys
dir_unique size xs ys fx fy e = same_some xs ys (sym (dir_again size xs fx) ∙ ap dir_at e ∙ dir_again size ys fy)

pub length-dir : (size : ℕ) (es : List DirEntry) → IsDir size es → length (dir_bytes size es) ≡ size
unfolding dir_bytes
length-dir size es is =
    let zeros : List ℕ = replicate (size - (4 + length (entries_bytes es))) 0 in
    omega (arith, is.room, length-append (entries_bytes es) (replicate (size - (4 + length (entries_bytes es))) 0), length-replicate {A = ℕ} (size - (4 + length (entries_bytes es))) 0)

-- ---- one entry

pub short_entry : (s : List ℕ) → length s < 5 → entry_at s ≡ None
unfolding entry_at
short_entry s short = rw (lt-ltb (length s) 5 short) refl

pub cut_entry : (s : List ℕ) → 5 ≤ length s → length s < 5 + get_or s 4 0 → entry_at s ≡ None
unfolding entry_at
cut_entry s some short =
    let cut : nat_lt (length (drop 5 s)) (get_or s 4 0) ≡ true = lt-ltb _ _ (omega (arith, length-drop 5 s)) in
    rw (le-ltb (length s) 5 some, cut) refl

pub whole_entry : (s : List ℕ) (e : DirEntry) → 5 + get_or s 4 0 ≤ length s → e.ino ≡ number_at w32 0 s → e.name ≡ take (get_or s 4 0) (drop 5 s)
    → entry_at s ≡ Some (e, drop (5 + length e.name) s)
unfolding entry_at
whole_entry s e whole ino name =
    let n : ℕ = get_or s 4 0 in
    let some : nat_lt (length s) 5 ≡ false = le-ltb _ _ (omega arith) in
    let there : nat_lt (length (drop 5 s)) (get_or s 4 0) ≡ false = le-ltb _ _ (omega (arith, length-drop 5 s)) in
    let long : length e.name ≡ get_or s 4 0 = ap length name ∙ (let l : length (take (get_or s 4 0) (drop 5 s)) ≡ get_or s 4 0 = omega (arith, length-take (get_or s 4 0) (drop 5 s), length-drop 5 s) in l) in
    let rest : drop (get_or s 4 0) (drop 5 s) ≡ drop (5 + length e.name) s = drop-drop (get_or s 4 0) 5 s ∙ ap (λ k. drop (5 + k) s) (sym long) in
    rw (some, there) (λ i. Some (record { ino = sym ino i; name = sym name i }, rest i))

-- ---- the entries from left to right

-- what stands behind the entries that were read, so many as are left
abbrev pub StandBehind : ℕ → List DirEntry → ℕ → ℕ → List ℕ → Type 0
StandBehind count es left at s = entries_at count (drop 4 s) ≡ option_map (λ rest. es ++ rest) (entries_at left (drop at s))

behind_more : (es : List DirEntry) (e : DirEntry) (o : Option (List DirEntry))
    → option_map (λ rest. es ++ rest) (option_map (λ rest. e ∷ rest) o) ≡ option_map (λ rest. (es ++ e ∷ []) ++ rest) o
behind_more es e None = refl
behind_more es e (Some rest) = ap (λ (x : List DirEntry). Some x) (sym (append_assoc es (e ∷ []) rest))

none_behind : (es : List DirEntry) → option_map (λ rest. es ++ rest) (Some []) ≡ Some es
none_behind es = ap (λ (x : List DirEntry). Some x) (append-nil es)

same_option : (o : Option (List DirEntry)) → option_map (λ rest. rest) o ≡ o
same_option None = refl
same_option (Some x) = refl

pub stand_first : (count : ℕ) (s : List ℕ) → StandBehind count [] count 4 s
stand_first count s = sym (same_option (entries_at count (drop 4 s)))

pub stand_more : (count left : ℕ) (es : List DirEntry) (e : DirEntry) (at : ℕ) (s : List ℕ) → StandBehind count es (suc left) at s
    → entry_at (drop at s) ≡ Some (e, drop (5 + length e.name) (drop at s)) → StandBehind count (es ++ e ∷ []) left (at + (5 + length e.name)) s
unfolding entries_at
stand_more count left es e at s stand read =
    let rest : drop (5 + length e.name) (drop at s) ≡ drop (at + (5 + length e.name)) s = drop-drop (5 + length e.name) at s in
    stand
    ∙ ap (λ o. option_map (λ rest. es ++ rest) (option_and_then (λ x. option_map (λ xs. x.0 ∷ xs) (entries_at left x.1)) o)) read
    ∙ behind_more es e (entries_at left (drop (5 + length e.name) (drop at s)))
    ∙ ap (λ (r : List ℕ). option_map (λ rest. (es ++ e ∷ []) ++ rest) (entries_at left r)) rest

pub stand_all : (count : ℕ) (es : List DirEntry) (at : ℕ) (s : List ℕ) → StandBehind count es 0 at s → count ≡ number_at w16 0 s → dir_at s ≡ Some es
unfolding dir_at entries_at
stand_all count es at s stand number = ap (λ n. entries_at n (drop 4 s)) (sym number) ∙ stand ∙ none_behind es

pub stand_none : (count left : ℕ) (es : List DirEntry) (at : ℕ) (s : List ℕ) → StandBehind count es (suc left) at s → count ≡ number_at w16 0 s → entry_at (drop at s) ≡ None → dir_at s ≡ None
unfolding dir_at entries_at
stand_none count left es at s stand number none =
    ap (λ n. entries_at n (drop 4 s)) (sym number) ∙ stand
    ∙ ap (λ o. option_map (λ rest. es ++ rest) (option_and_then (λ x. option_map (λ xs. x.0 ∷ xs) (entries_at left x.1)) o)) none

pub bytes_more : (es : List DirEntry) (e : DirEntry) → length (entries_bytes (es ++ e ∷ [])) ≡ length (entries_bytes es) + (5 + length e.name)
bytes_more [] e = omega (arith, length-append (entry_bytes e) [], length-entry e)
bytes_more (x ∷ es) e =
    omega (arith, length-append (entry_bytes x) (entries_bytes (es ++ e ∷ [])), length-append (entry_bytes x) (entries_bytes es), bytes_more es e)

pub each_more : (es : List DirEntry) (e : DirEntry) → AllByRecursion IsEntry es → IsEntry e → AllByRecursion IsEntry (es ++ e ∷ [])
each_more [] e each is = (is, tt)
each_more (x ∷ es) e each is = (each.0, each_more es e each.1 is)

-- ---- the reader

pub short_names : (es : List DirEntry) → AllByRecursion IsEntry es → All (λ e. length e.name < 256) es
short_names [] each = All-nil (λ e. length e.name < 256)
short_names (e ∷ es) each = All-cons (λ e. length e.name < 256) e es each.0.name (short_names es each.1)

pub read_is : (size : ℕ) (r v : List DirEntry) (s : List ℕ) → dir_at s ≡ Some r → IsDir size v → s ≡ dir_bytes size v → r ≡ v
read_is size r v s read is spelled = same_some r v (sym read ∙ ap dir_at spelled ∙ dir_again size v is)

pub dir_spelled_so : (size : ℕ) (r v : List DirEntry) (s : List ℕ) → r ≡ v → s ≡ dir_bytes size v → bytes_eq (dir_bytes size r) s ≡ true
dir_spelled_so size r v s e spelled = (bytes_eq-Decides (dir_bytes size r) s).1 (ap (dir_bytes size) e ∙ sym spelled)

-- ---- what is answered where reading ends early

pub same_refusal : {T : Type 0} (r : Result T DirReadRefusal) (x y : DirReadRefusal) → IsErrAnd r (λ z. z ≡ x) → r ≡ Err y → x ≡ y
same_refusal (Ok v) x y h e = absurd h
same_refusal (Err z) x y h e = cc

pub only_memory : {T : Type 0} (r : Result T DirReadRefusal) (x : DirReadRefusal) (v : T) → IsErrAnd r (λ z. z ≡ x) → x ≢ Bad → (r ≡ Ok v) ⊎ (r ≡ Err NoMemory)
only_memory (Ok w) x v h ne = absurd h
only_memory (Err Bad) x v h ne = absurd (ne (sym h))
only_memory (Err NoMemory) x v h ne = inr refl

pub to_the_end : (s : List ℕ) (at : ℕ) → take (length s - at) (drop at s) ≡ drop at s
to_the_end s at =
    let long : length s - at ≡ length (drop at s) = omega (arith, length-drop at s) in
    ap (λ n. take n (drop at s)) long ∙ take-length (drop at s)

pub read_rest : (s : List ℕ) (at : ℕ) (e : DirEntry) → entry_at (take (length s - at) (drop at s)) ≡ Some (e, drop (5 + length e.name) (take (length s - at) (drop at s)))
    → entry_at (drop at s) ≡ Some (e, drop (5 + length e.name) (drop at s))
read_rest s at e read = subst (λ (x : List ℕ). entry_at x ≡ Some (e, drop (5 + length e.name) x)) (to_the_end s at) read

pub not_bad : (size : ℕ) (v : List DirEntry) (s : List ℕ) → IsDir size v → s ≡ dir_bytes size v → dir_at s ≢ None
not_bad size v s is spelled none =
    let some : dir_at s ≡ Some v = ap dir_at spelled ∙ dir_again size v is in
    absurd cc
