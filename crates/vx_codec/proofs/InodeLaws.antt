-- What is spelled as an inode is read again, and what is read is spelled so.
use Rattle.std.proofs.Common.{◌≡◌, ℕ, zero, suc, ◌+◌, ◌*◌, ◌<◌, ◌^◌, Bool, true, false, cond, Option, Some, None, List, [], ◌∷◌, ◌++◌, length, drop, get_or, replicate, refl, sym, ap, subst, ◌∙◌, arith, length-append, append_assoc}
use Rattle.std.specs.Prelude.{◌==◌, ◌&&◌, nat_lt, nat_le, unwrap_or, is_some, IfSome}
use Rattle.std.specs.Int.{Width, w16, w32, w64, from_le_bytes, to_le_bytes}
use Rattle.std.specs.List.{flat_map, list_all}
use Rattle.std.proofs.lemmas.Slice.Eq.{bytes_eq-Decides}
use Rattle.std.proofs.lemmas.Nat.{from_le_bytes-to_le_bytes_2, from_le_bytes-to_le_bytes_4, from_le_bytes-to_le_bytes_8}
use Rattle.std.proofs.lemmas.Bool.{and_parts, le-ltb, lt-ltb, ltb-true, ltb-false}
use Rattle.std.proofs.lemmas.List.{drop_at, drop-drop}
use Rattle.vx_base.specs.declared.kind.Kind.{Kind}
use Rattle.vx_base.specs.declared.kind.Kind.TheVariants.{Data, Reserved}
use Rattle.vx_base.specs.declared.kind.FileKind.{FileKind}
use Rattle.vx_base.specs.declared.kind.FileKind.TheVariants.{File, Directory}
use Rattle.vx_base.specs.declared.inode.Extent.{Extent}
use Rattle.vx_base.specs.declared.inode.InodeValue.{InodeValue}
use Rattle.vx_base.specs.declared.geom.Geom.{Geom}
use Rattle.vx_layout.specs.Fields.{number_at}
use Rattle.vx_layout.specs.Inodes.{kind_number, kind_from, file_kind_number, file_kind_from, extent_bytes, extent_at, place_bytes, place_at, places_at, inode_head, inode_bytes, inode_at, inode_fits, has_length, place_has_length, is_map_number, extents_limit, maps_needed, attrs_fit, slot_bytes, slot_at, IsExtent, IsPlace, ArePlaces, IsInode, IsSlot}
use Rattle.vx_layout.proofs.Numbers.{IsBytes, IsBytes-drop}
use Rattle.vx_layout.proofs.Lists.{zeros_from}
use Rattle.vx_codec.proofs.Lengths.{length-head}

kind_again : (k : Kind) → kind_from (number_at w32 0 (to_le_bytes w32 (kind_number k))) ≡ k
unfolding number_at
kind_again Data = refl
kind_again Reserved = refl

file_kind_again : (k : FileKind) → file_kind_from (file_kind_number k) ≡ k
file_kind_again File = refl
file_kind_again Directory = refl

-- ---- places behind other bytes

pub behind : (w : Width) (pre x : List ℕ) (at : ℕ) → length pre ≡ at → number_at w at (pre ++ x) ≡ number_at w 0 x
unfolding number_at
behind w pre x at len = ap (from_le_bytes w) (drop_at pre x at len)

pub further : (w : Width) (pre x : List ℕ) (at k : ℕ) → length pre ≡ at → number_at w (at + k) (pre ++ x) ≡ number_at w k x
unfolding number_at
further w pre x at k len = ap (from_le_bytes w) (sym (drop-drop k at (pre ++ x)) ∙ ap (drop k) (drop_at pre x at len))

pub extent_again : (e : Extent) (pre rest : List ℕ) (at : ℕ) → length pre ≡ at → IsExtent e → extent_at at (pre ++ (extent_bytes e ++ rest)) ≡ e
unfolding extent_bytes number_at
extent_again e pre rest at len fits =
    let x : List ℕ = extent_bytes e ++ rest in
    let a = behind w32 pre (extent_bytes e ++ rest) at len ∙ from_le_bytes-to_le_bytes_4 e.page fits.page in
    let b = further w32 pre (extent_bytes e ++ rest) at 4 len ∙ from_le_bytes-to_le_bytes_4 e.start fits.start in
    let c = further w32 pre (extent_bytes e ++ rest) at 8 len ∙ from_le_bytes-to_le_bytes_4 e.len fits.len in
    let d = ap kind_from (further w32 pre (extent_bytes e ++ rest) at 12 len) ∙ kind_again e.kind in
    λ i. record { page = a i; start = b i; len = c i; kind = d i }

place_again : (n i at : ℕ) (o : Option Extent) (pre rest : List ℕ) → length pre ≡ at → IsPlace n i o → place_at n i at (pre ++ (place_bytes o ++ rest)) ≡ o
place_again n i at None pre rest len is = rw (le-ltb i n is) refl
place_again n i at (Some e) pre rest len is = rw (lt-ltb i n is.0) (ap (λ (x : Extent). Some x) (extent_again e pre rest at len is.1))

length-place : (o : Option Extent) → length (place_bytes o) ≡ 16
unfolding extent_bytes
length-place None = refl
length-place (Some e) = refl

length-places : (ps : List (Option Extent)) → length (flat_map place_bytes ps) ≡ 16 * length ps
length-places [] = refl
length-places (p ∷ ps) = omega (arith, length-append (place_bytes p) (flat_map place_bytes ps), length-place p, length-places ps)

-- k places from the i-th on, which stands at `at`
abbrev places_from : ℕ → ℕ → ℕ → ℕ → List ℕ → List (Option Extent)
places_from n i at zero s = []
places_from n i at (suc k) s = place_at n i at s ∷ places_from n (i + 1) (at + 16) k s

places_again : (n i at : ℕ) (ps : List (Option Extent)) (pre rest : List ℕ) → length pre ≡ at → ArePlaces n i ps
    → places_from n i at (length ps) (pre ++ (flat_map place_bytes ps ++ rest)) ≡ ps
places_again n i at [] pre rest len is = refl
places_again n i at (p ∷ ps) pre rest len is =
    let flat : List ℕ = flat_map place_bytes ps in
    let inner : (place_bytes p ++ flat_map place_bytes ps) ++ rest ≡ place_bytes p ++ (flat_map place_bytes ps ++ rest) = append_assoc (place_bytes p) (flat_map place_bytes ps) rest in
    let here = ap (λ (x : List ℕ). pre ++ x) inner in
    let there = here ∙ sym (append_assoc pre (place_bytes p) (flat_map place_bytes ps ++ rest)) in
    let long : length (pre ++ place_bytes p) ≡ at + 16 = omega (arith, length-append pre (place_bytes p), length-place p) in
    let first = ap (place_at n i at) here ∙ place_again n i at p pre (flat_map place_bytes ps ++ rest) len is.0 in
    let others = ap (places_from n (i + 1) (at + 16) (length ps)) there ∙ places_again n (i + 1) (at + 16) ps (pre ++ place_bytes p) rest long is.1 in
    λ j. first j ∷ others j

map_again : (o : Option ℕ) (m : ℕ) → is_some o ≡ nat_lt 0 m → cond (nat_lt 0 m) (Some (unwrap_or o 0)) None ≡ o
map_again None m h = rw (← h) refl
map_again (Some b) m h = rw (← h) refl

pub below : (o : Option ℕ) → IfSome o (λ b. (0 < b) × (b < 2 ^ 32)) → unwrap_or o 0 < 2 ^ 32
below None h = omega arith
below (Some b) h = h.1

-- ---- the whole

abbrev first_of : InodeValue → List ℕ
first_of v = flat_map place_bytes v.first

abbrev rest_of : InodeValue → List ℕ
rest_of v = to_le_bytes w32 (unwrap_or v.map 0) ++ replicate 124 0

behind_head : (v : InodeValue) → inode_bytes v ≡ inode_head v ++ (first_of v ++ rest_of v)
unfolding inode_bytes
behind_head v =
    append_assoc (inode_head v ++ first_of v) (to_le_bytes w32 (unwrap_or v.map 0)) (replicate 124 0) ∙ append_assoc (inode_head v) (first_of v) (rest_of v)

first_again : (v : InodeValue) → length v.first ≡ 6 → ArePlaces v.extents 0 v.first → places_at v.extents 32 (inode_bytes v) ≡ v.first
first_again v six is =
    let s : List ℕ = inode_head v ++ (first_of v ++ rest_of v) in
    let P : ℕ → Type 0 = λ k. places_from v.extents 0 32 k (inode_head v ++ (first_of v ++ rest_of v)) ≡ v.first in
    ap (places_at v.extents 32) (behind_head v) ∙ subst P six (places_again v.extents 0 32 v.first (inode_head v) (rest_of v) (length-head v) is)

block_again : (v : InodeValue) → length v.first ≡ 6 → IfSome v.map (λ b. (0 < b) × (b < 2 ^ 32)) → number_at w32 128 (inode_bytes v) ≡ unwrap_or v.map 0
unfolding number_at
block_again v six fits =
    let long : length (inode_head v ++ first_of v) ≡ 128 = omega (arith, length-append (inode_head v) (first_of v), length-head v, length-places v.first) in
    let apart = behind_head v ∙ sym (append_assoc (inode_head v) (first_of v) (rest_of v)) in
    ap (number_at w32 128) apart ∙ behind w32 (inode_head v ++ first_of v) (rest_of v) 128 long ∙ from_le_bytes-to_le_bytes_4 (unwrap_or v.map 0) (below v.map fits)

pub inode_again : (g : Geom) (v : InodeValue) → IsInode g v → inode_at (inode_bytes v) ≡ v
unfolding inode_head inode_bytes inode_at number_at
inode_again g v is =
    let mode = from_le_bytes-to_le_bytes_2 v.inode.mode is.mode in
    let nlink = from_le_bytes-to_le_bytes_2 v.inode.nlink is.nlink in
    let maps : number_at w16 6 (inode_bytes v) ≡ v.maps = from_le_bytes-to_le_bytes_2 v.maps is.maps in
    let size = from_le_bytes-to_le_bytes_8 v.inode.size is.size in
    let fixed = from_le_bytes-to_le_bytes_4 v.inode.attrs.fixed is.fixed in
    let reserve = from_le_bytes-to_le_bytes_4 v.inode.attrs.reserve is.reserve in
    let extents : number_at w32 24 (inode_bytes v) ≡ v.extents = from_le_bytes-to_le_bytes_4 v.extents is.extents in
    let first : places_at (number_at w32 24 (inode_bytes v)) 32 (inode_bytes v) ≡ v.first =
    ap (λ n. places_at n 32 (inode_bytes v)) extents ∙ first_again v is.six is.places in
    let map : cond (nat_lt 0 (number_at w16 6 (inode_bytes v))) (Some (number_at w32 128 (inode_bytes v))) None ≡ v.map =
    (λ j. cond (nat_lt 0 (maps j)) (Some (block_again v is.six is.map j)) None) ∙ map_again v.map v.maps is.chained in
    let kind = file_kind_again v.inode.kind in
    λ i. record {
      inode = record { kind = kind i; mode = mode i; nlink = nlink i; size = size i; attrs = record { fixed = fixed i; reserve = reserve i; flags = v.inode.attrs.flags } };
      maps = maps i;
      extents = extents i;
      first = first i;
      map = map i;
    }

pub inode_unique : (g : Geom) (v w : InodeValue) → IsInode g v → IsInode g w → inode_bytes v ≡ inode_bytes w → v ≡ w
inode_unique g v w fv fw e = sym (inode_again g v fv) ∙ ap inode_at e ∙ inode_again g w fw

-- ---- what is read

pub below_16 : (at : ℕ) (s : List ℕ) → IsBytes s → number_at w16 at s < 2 ^ 16
unfolding number_at
below_16 at s fits =
    let h = IsBytes-drop at s fits in
    omega (arith, h 0, h 1)

pub below_32 : (at : ℕ) (s : List ℕ) → IsBytes s → number_at w32 at s < 2 ^ 32
unfolding number_at
below_32 at s fits =
    let h = IsBytes-drop at s fits in
    omega (arith, h 0, h 1, h 2, h 3)

below_64 : (at : ℕ) (s : List ℕ) → IsBytes s → number_at w64 at s < 2 ^ 64
unfolding number_at
below_64 at s fits =
    let h = IsBytes-drop at s fits in
    omega (arith, h 0, h 1, h 2, h 3, h 4, h 5, h 6, h 7)

pub is_extent : (at : ℕ) (s : List ℕ) → IsBytes s → has_length (extent_at at s) ≡ true → IsExtent (extent_at at s)
is_extent at s fits some = record { page = below_32 at s fits; start = below_32 (at + 4) s fits; some = ltb-true 0 (number_at w32 (at + 8) s) some; len = below_32 (at + 8) s fits }

chosen_place : (n i at : ℕ) (s : List ℕ) (b : Bool) → IsBytes s → nat_lt i n ≡ b → place_has_length (cond b (Some (extent_at at s)) None) ≡ true → IsPlace n i (cond b (Some (extent_at at s)) None)
chosen_place n i at s true fits e some = (ltb-true i n e, is_extent at s fits some)
chosen_place n i at s false fits e some = ltb-false i n e

is_place : (n i at : ℕ) (s : List ℕ) → IsBytes s → place_has_length (place_at n i at s) ≡ true → IsPlace n i (place_at n i at s)
is_place n i at s fits some = chosen_place n i at s (nat_lt i n) fits refl some

is_map : (b : Bool) (n : ℕ) → n < 2 ^ 32 → is_map_number (cond b (Some n) None) ≡ true → IfSome (cond b (Some n) None) (λ m. (0 < m) × (m < 2 ^ 32))
is_map true n h some = (ltb-true 0 n some, h)
is_map false n h some = tt

-- what is tested last
abbrev tests_from_map : Geom → InodeValue → Bool
tests_from_map g v = is_map_number v.map && (list_all place_has_length v.first && attrs_fit g v.inode)

last_tests : (g : Geom) (v : InodeValue) → inode_fits g v ≡ true → tests_from_map g v ≡ true
unfolding inode_fits
last_tests g v h =
    let links : (nat_le v.inode.nlink 32767 && (nat_le v.extents (extents_limit g) && (v.maps == maps_needed g v.extents && tests_from_map g v))) ≡ true = (and_parts (nat_le v.inode.mode 4095) _ (and_parts (nat_lt v.inode.attrs.flags 32) _ h).1).1 in
    (and_parts (v.maps == maps_needed g v.extents) (tests_from_map g v) (and_parts (nat_le v.extents (extents_limit g)) _ (and_parts (nat_le v.inode.nlink 32767) _ links).1).1).1

is_chained : (b : Bool) (n : ℕ) → is_some (cond b (Some n) None) ≡ b
is_chained true n = refl
is_chained false n = refl

is_inode : (g : Geom) (s : List ℕ) → IsBytes s → inode_fits g (inode_at s) ≡ true → IsInode g (inode_at s)
unfolding inode_at
is_inode g s fits h =
    let n : ℕ = number_at w32 24 s in
    let last = and_parts _ _ (last_tests g (inode_at s) h) in
    let some_1 = and_parts _ _ (and_parts _ _ last.1).0 in
    let some_2 = and_parts _ _ some_1.1 in
    let some_3 = and_parts _ _ some_2.1 in
    let some_4 = and_parts _ _ some_3.1 in
    let some_5 = and_parts _ _ some_4.1 in
    let some_6 = and_parts _ _ some_5.1 in
    record {
      fits = h;
      mode = below_16 2 s fits;
      nlink = below_16 4 s fits;
      size = below_64 8 s fits;
      fixed = below_32 16 s fits;
      reserve = below_32 20 s fits;
      maps = below_16 6 s fits;
      extents = below_32 24 s fits;
      six = refl;
      places = (is_place n 0 32 s fits some_1.0, (is_place n 1 48 s fits some_2.0, (is_place n 2 64 s fits some_3.0, (is_place n 3 80 s fits some_4.0, (is_place n 4 96 s fits some_5.0, (is_place n 5 112 s fits some_6.0, tt))))));
      map = is_map (nat_lt 0 (number_at w16 6 s)) (number_at w32 128 s) (below_32 128 s fits) last.0;
      chained = is_chained (nat_lt 0 (number_at w16 6 s)) (number_at w32 128 s);
    }

-- ---- the two laws of the reader

first_byte : (v : InodeValue) → (get_or (inode_bytes v) 0 0 == 0) ≡ false
unfolding inode_head inode_bytes
first_byte v = elim v.inode.kind as (λ k. (file_kind_number k == 0) ≡ false) [ File ↦ refl | Directory ↦ refl ]

pub slot_again : (g : Geom) (o : Option InodeValue) → IsSlot g o → slot_at g (slot_bytes o) ≡ Some o
slot_again g None is = refl
slot_again g (Some v) is =
    rw (first_byte v, inode_again g v is, is.fits, (bytes_eq-Decides (inode_bytes v) (inode_bytes v)).1 refl) refl

guarded : (b : Bool) (x : Option (Option InodeValue)) (y : Option InodeValue) → cond b x None ≡ Some y → (b ≡ true) × (x ≡ Some y)
guarded true x y h = (refl, h)
guarded false x y h = absurd cc

some_is : (x y : Option InodeValue) → ◌≡◌ {A = Option (Option InodeValue)} (Some x) (Some y) → x ≡ y
some_is x y e = cc

slot_cases : (g : Geom) (s : List ℕ) (o : Option InodeValue) (b : Bool) → length s ≡ 256 → IsBytes s → (get_or s 0 0 == 0) ≡ b → slot_at g s ≡ Some o → IsSlot g o × (s ≡ slot_bytes o)
slot_cases g s o true len fits first h =
    let k = guarded _ _ o (rw first at h) in
    let P : Option InodeValue → Type 0 = λ x. IsSlot g x × (s ≡ slot_bytes x) in
    subst P (some_is None o k.1) (tt, zeros_from s 256 len k.0)
slot_cases g s o false len fits first h =
    let k = guarded _ _ o (rw first at h) in
    let both = and_parts _ _ k.0 in
    let P : Option InodeValue → Type 0 = λ x. IsSlot g x × (s ≡ slot_bytes x) in
    subst P (some_is (Some (inode_at s)) o k.1) (is_inode g s fits both.0, sym ((bytes_eq-Decides (inode_bytes (inode_at s)) s).0 both.1))

pub slot_found : (g : Geom) (s : List ℕ) (o : Option InodeValue) → length s ≡ 256 → IsBytes s → slot_at g s ≡ Some o → IsSlot g o × (s ≡ slot_bytes o)
slot_found g s o len fits h = slot_cases g s o (get_or s 0 0 == 0) len fits refl h
