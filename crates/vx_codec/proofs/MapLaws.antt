-- What is spelled as a map block is read again, and what is read is spelled so.
use Rattle.std.proofs.Common.{◌≡◌, ℕ, zero, suc, ◌+◌, ◌-◌, ◌*◌, ◌<◌, ◌≤◌, ◌^◌, Bool, true, false, cond, Option, Some, None, List, [], ◌∷◌, ◌++◌, length, replicate, refl, sym, ap, subst, ◌∙◌, arith, length-append, append_assoc}
use Rattle.std.specs.Prelude.{◌==◌, unwrap_or, IfSome}
use Rattle.std.specs.Int.{w32}
use Rattle.std.specs.List.{flat_map, list_all, AllByRecursion}
use Rattle.std.specs.Str.{bytes_eq}
use Rattle.std.proofs.lemmas.Bool.{and_parts, lt-ltb, ne_eqb}
use Rattle.std.proofs.lemmas.Slice.Eq.{bytes_eq-Decides}
use Rattle.std.proofs.lemmas.Nat.{from_le_bytes-to_le_bytes_4}
use Rattle.vx_base.specs.declared.inode.Extent.{Extent}
use Rattle.vx_layout.specs.Fields.{number_at}
use Rattle.vx_layout.specs.Inodes.{extent_bytes, extent_at, has_length, IsExtent}
use Rattle.vx_layout.specs.Maps.{MapBlock, IsMap, map_places, map_head, map_bytes, next_from, extents_at, map_with, map_block_at}
use Rattle.vx_layout.proofs.Numbers.{IsBytes}
use Rattle.vx_codec.proofs.InodeLaws.{extent_again, is_extent, below_32}

-- ---- lengths

pub length-head : (m : MapBlock) → length (map_head m) ≡ 16
unfolding map_head
length-head m = refl

length-extent : (e : Extent) → length (extent_bytes e) ≡ 16
unfolding extent_bytes
length-extent e = refl

pub length-extents : (es : List Extent) → length (flat_map extent_bytes es) ≡ 16 * length es
length-extents [] = refl
length-extents (e ∷ es) = omega (arith, length-append (extent_bytes e) (flat_map extent_bytes es), length-extent e, length-extents es)

-- ---- what is written is read again

extents_again : (at : ℕ) (es : List Extent) (pre rest : List ℕ) → length pre ≡ at → AllByRecursion IsExtent es
    → extents_at (length es) at (pre ++ (flat_map extent_bytes es ++ rest)) ≡ es
unfolding extents_at
extents_again at [] pre rest len fits = refl
extents_again at (e ∷ es) pre rest len fits =
    let inner : (extent_bytes e ++ flat_map extent_bytes es) ++ rest ≡ extent_bytes e ++ (flat_map extent_bytes es ++ rest) = append_assoc (extent_bytes e) (flat_map extent_bytes es) rest in
    let here = ap (λ (x : List ℕ). pre ++ x) inner in
    let there = here ∙ sym (append_assoc pre (extent_bytes e) (flat_map extent_bytes es ++ rest)) in
    let long : length (pre ++ extent_bytes e) ≡ at + 16 = omega (arith, length-append pre (extent_bytes e), length-extent e) in
    let first = ap (extent_at at) here ∙ extent_again e pre (flat_map extent_bytes es ++ rest) at len fits.0 in
    let others = ap (extents_at (length es) (at + 16)) there ∙ extents_again (at + 16) es (pre ++ extent_bytes e) rest long fits.1 in
    λ j. first j ∷ others j

next_again : (o : Option ℕ) → IfSome o (λ b. (0 < b) × (b < 2 ^ 32)) → next_from (unwrap_or o 0) ≡ o
next_again None is = refl
next_again (Some b) is = rw (ne_eqb b 0 (λ e. omega (arith, is.0))) refl

next_below : (o : Option ℕ) → IfSome o (λ b. (0 < b) × (b < 2 ^ 32)) → unwrap_or o 0 < 2 ^ 32
next_below None is = omega arith
next_below (Some b) is = is.1

count_below : (size : ℕ) (m : MapBlock) → size ≤ 65536 → IsMap size m → length m.extents < 2 ^ 32
count_below size m high is = omega (arith, is.most)

pub count_again : (size : ℕ) (m : MapBlock) → size ≤ 65536 → IsMap size m → number_at w32 8 (map_bytes size m) ≡ length m.extents
unfolding map_bytes map_head number_at
count_again size m high is = from_le_bytes-to_le_bytes_4 (length m.extents) (count_below size m high is)

next_number : (size : ℕ) (m : MapBlock) → IsMap size m → number_at w32 4 (map_bytes size m) ≡ unwrap_or m.next 0
unfolding map_bytes map_head number_at
next_number size m is = from_le_bytes-to_le_bytes_4 (unwrap_or m.next 0) (next_below m.next is.next)

ino_number : (size : ℕ) (m : MapBlock) → IsMap size m → number_at w32 12 (map_bytes size m) ≡ m.ino
unfolding map_bytes map_head number_at
ino_number size m is = from_le_bytes-to_le_bytes_4 m.ino is.ino

behind_head : (size : ℕ) (m : MapBlock) → map_bytes size m ≡ map_head m ++ (flat_map extent_bytes m.extents ++ replicate (size - (16 + 16 * length m.extents)) 0)
unfolding map_bytes
behind_head size m = append_assoc (map_head m) (flat_map extent_bytes m.extents) (replicate (size - (16 + 16 * length m.extents)) 0)

pub map_again : (size : ℕ) (m : MapBlock) → IsMap size m → map_with (length m.extents) (map_bytes size m) ≡ m
map_again size m is =
    let next : next_from (number_at w32 4 (map_bytes size m)) ≡ m.next = ap next_from (next_number size m is) ∙ next_again m.next is.next in
    let ino = ino_number size m is in
    let extents : extents_at (length m.extents) 16 (map_bytes size m) ≡ m.extents =
    ap (extents_at (length m.extents) 16) (behind_head size m)
    ∙ extents_again 16 m.extents (map_head m) (replicate (size - (16 + 16 * length m.extents)) 0) (length-head m) is.each in
    λ i. record { next = next i; ino = ino i; extents = extents i }

pub block_again : (size : ℕ) (m : MapBlock) → size ≤ 65536 → IsMap size m → map_block_at (map_bytes size m) ≡ m
unfolding map_block_at
block_again size m high is = ap (λ n. map_with n (map_bytes size m)) (count_again size m high is) ∙ map_again size m is

pub map_unique : (size : ℕ) (m n : MapBlock) → size ≤ 65536 → IsMap size m → IsMap size n → map_bytes size m ≡ map_bytes size n → m ≡ n
map_unique size m n high fm fn e = sym (block_again size m high fm) ∙ ap map_block_at e ∙ block_again size n high fn

-- ---- what is read

pub length-read : (n at : ℕ) (s : List ℕ) → length (extents_at n at s) ≡ n
unfolding extents_at
length-read zero at s = refl
length-read (suc n) at s = ap suc (length-read n (at + 16) s)

are_extents : (n at : ℕ) (s : List ℕ) → IsBytes s → list_all has_length (extents_at n at s) ≡ true → AllByRecursion IsExtent (extents_at n at s)
unfolding extents_at
are_extents zero at s fits some = tt
are_extents (suc n) at s fits some = let each = and_parts _ _ some in (is_extent at s fits each.0, are_extents n (at + 16) s fits each.1)

-- extents of the form have a block each
pub have_lengths : (es : List Extent) → AllByRecursion IsExtent es → list_all has_length es ≡ true
have_lengths [] each = refl
have_lengths (e ∷ es) each = rw (lt-ltb 0 e.len each.0.some) (have_lengths es each.1)

next_chosen : (n : ℕ) (b : Bool) → (n == 0) ≡ b → n < 2 ^ 32 → IfSome (cond b None (Some n)) (λ m. (0 < m) × (m < 2 ^ 32))
next_chosen n true e h = tt
next_chosen zero false e h = absurd cc
next_chosen (suc n) false e h = (omega arith, h)

next_is : (n : ℕ) → n < 2 ^ 32 → IfSome (next_from n) (λ b. (0 < b) × (b < 2 ^ 32))
next_is n h = next_chosen n (n == 0) refl h

pub is_map : (size n : ℕ) (s : List ℕ) → IsBytes s → 1 ≤ n → n ≤ map_places size → list_all has_length (map_with n s).extents ≡ true → IsMap size (map_with n s)
is_map size n s fits low high some_each = record {
  some = omega (arith, length-read n 16 s);
  most = omega (arith, length-read n 16 s);
  next = next_is (number_at w32 4 s) (below_32 4 s fits);
  ino = below_32 12 s fits;
  each = are_extents n 16 s fits some_each;
}

-- one extent more
pub extents_more : (n at : ℕ) (s : List ℕ) → extents_at n at s ++ extent_at (at + 16 * n) s ∷ [] ≡ extents_at (suc n) at s
unfolding extents_at
extents_more zero at s = ap (λ k. extent_at k s ∷ []) (let e : at + 16 * 0 ≡ at = omega arith in e)
extents_more (suc n) at s =
    let e : at + 16 * suc n ≡ at + 16 + 16 * n = omega arith in
    ap (λ (xs : List Extent). extent_at at s ∷ xs) (ap (λ k. extents_at n (at + 16) s ++ extent_at k s ∷ []) e ∙ extents_more n (at + 16) s)

-- ---- the reader's loop

pub begun : (s : List ℕ) (o : Option ℕ) (i : ℕ) (v : MapBlock) → v ≡ record { next = o; ino = i; extents = [] } → o ≡ next_from (number_at w32 4 s) → i ≡ number_at w32 12 s
    → v ≡ map_with 0 s
unfolding extents_at
begun s o i v e next ino = e ∙ (λ j. record { next = next j; ino = ino j; extents = [] })

pub grown : (s : List ℕ) (i : ℕ) (v w : MapBlock) (e : Extent) → v ≡ map_with i s → w ≡ record { next = v.next; ino = v.ino; extents = v.extents ++ e ∷ [] }
    → e ≡ extent_at (16 + 16 * i) s → w ≡ map_with (i + 1) s
grown s i v w e is pushed there =
    let more : extents_at i 16 s ++ extent_at (16 + 16 * i) s ∷ [] ≡ extents_at (i + 1) 16 s =
    extents_more i 16 s ∙ ap (λ k. extents_at k 16 s) (let e : suc i ≡ i + 1 = omega arith in e) in
    pushed ∙ (λ j. record { next = (is j).next; ino = (is j).ino; extents = (is j).extents ++ there j ∷ [] })
    ∙ (λ j. record { next = next_from (number_at w32 4 s); ino = number_at w32 12 s; extents = more j })

-- ---- the reader

pub is_map_of : (size n : ℕ) (s : List ℕ) (v : MapBlock) → v ≡ map_with n s → IsBytes s → 1 ≤ n → n ≤ map_places size → list_all has_length v.extents ≡ true → IsMap size v
is_map_of size n s v e fits low high some_each = subst (IsMap size) (sym e) (is_map size n s fits low high (ap (λ (m : MapBlock). list_all has_length m.extents) (sym e) ∙ some_each))

pub count_of : (size : ℕ) (v : MapBlock) (s : List ℕ) (n : ℕ) → n ≡ number_at w32 8 s → size ≤ 65536 → IsMap size v → s ≡ map_bytes size v → n ≡ length v.extents
count_of size v s n e high is spelled = e ∙ ap (number_at w32 8) spelled ∙ count_again size v high is

pub value_of : (size : ℕ) (r v : MapBlock) (s : List ℕ) (n : ℕ) → n ≡ number_at w32 8 s → r ≡ map_with n s → size ≤ 65536 → IsMap size v → s ≡ map_bytes size v → r ≡ v
value_of size r v s n e read high is spelled =
    read ∙ (λ j. map_with (count_of size v s n e high is spelled j) (spelled j)) ∙ map_again size v is

pub spelled_so : (size : ℕ) (r v : MapBlock) (s : List ℕ) → r ≡ v → s ≡ map_bytes size v → bytes_eq (map_bytes size r) s ≡ true
spelled_so size r v s e spelled = (bytes_eq-Decides (map_bytes size r) s).1 (ap (map_bytes size) e ∙ sym spelled)
