-- The inodes and the metadata blocks of a state have a spelling.
use Rattle.std.proofs.Common.{◌≡◌, ℕ, zero, suc, ◌+◌, ◌-◌, ◌*◌, ◌%◌, ◌<◌, ◌≤◌, ◌^◌, Bool, true, false, cond, List, [], ◌∷◌, ◌++◌, length, map, take, drop, Option, Some, None, refl, sym, ap, subst, ◌∙◌, arith, lit<, lit≤}
use Rattle.std.specs.Prelude.{◌||◌, ◌==◌, nat_lt, bit_and, is_some, IsTrue, IfSome}
use Rattle.std.specs.List.{list_all, AllByRecursion}
use Rattle.std.specs.Option.{option_map, option_and_then}
use Rattle.std.specs.FinMap as map_of
use Rattle.std.proofs.lemmas.Bool.{le-leb, leb-true, lt-ltb, eq-eqb, ltb-true, and_parts, and_from, eqb-true}
use Rattle.std.proofs.lemmas.List.{length-take, length-take-le, length-drop, append-nil}
use Rattle.vx_base.specs.declared.call.ExtAttrs.{ExtAttrs}
use Rattle.vx_base.specs.declared.inode.Extent.{Extent}
use Rattle.vx_base.specs.declared.inode.Inode.{Inode}
use Rattle.vx_base.specs.declared.kind.FileKind.{FileKind}
use Rattle.vx_base.specs.declared.kind.FileKind.TheVariants as kind_of
use Rattle.vx_layout.specs.Places.{is_data}
use Rattle.vx_layout.specs.Inodes.{IsExtent, IsInode, ArePlaces, layout1, inode_fits, attrs_fit, place_has_length, is_map_number}
use Rattle.vx_layout.specs.Dirs.{IsDir}
use Rattle.vx_layout.specs.Maps.{IsMap}
use Rattle.vx_extents.specs.Extents.{Mapped, stretches, chain_len, extent_count}
use Rattle.vx_space.specs.Laws.{AreRising}
use Rattle.vx_space.specs.Space.{Space, page_blocks, maps_for}
use Rattle.vx_sound.specs.Said.{among}
use Rattle.vx_sound.specs.Reading.{Form, IsForm, IsSpelled, HasWholeBlocks}
use Rattle.vx_model.specs.Tree.{Node, IsFile, IsDirectory, File, Directory, no_attrs}
use Rattle.vx_model.specs.Layout.{DirectoryBlock, Layout, Claim, Claimed, volume, blocks_at, space_at, maps_at, block_numbers, owned, pages_from, settled_at, settled_maps, first_of, chain_of, chain_at, names_claimed, page_claimed, claimed_at, claim_among, or_claim, claim_below, claim_of}
use Rattle.vx_model.specs.Shapes.{kept_attrs}
use Rattle.vx_model.specs.State.{State}
use Rattle.vx_model.specs.Contents.{Held, places as places_of, value_of, settled_of, inode_for, parsed_of}
use Rattle.vx_model.specs.LaidOut.{AreAttrs, IsFileOf, IsDirectoryOf, IsNodeOf, IsHeld, IsLaidOut, HasNothing}
use Rattle.vx_model.proofs.Claims.{part_uses, settled_part}
use Rattle.vx_model.proofs.Uses.{is_among, among_uses}
use Rattle.vx_model.proofs.Stretching.{IsLowPage, few_stretches, are_extents, chain_fills}

pub whole_blocks : (l : Layout) → HasWholeBlocks (volume l)
whole_blocks l = record { volume = record { some = lit< tt; even = refl }; whole = refl; high = lit≤ tt }

-- ---- lists

pub all_take : {X : Type 0} (P : X → Type 0) (n : ℕ) (xs : List X) → AllByRecursion P xs → AllByRecursion P (take n xs)
all_take P zero xs all = tt
all_take P (suc n) [] all = tt
all_take P (suc n) (x ∷ xs) all = (all.0, all_take P n xs all.1)

pub take_none : {X : Type 0} (n : ℕ) → ◌≡◌ {A = List X} (take n []) []
take_none zero = refl
take_none (suc n) = refl

pub all_drop : {X : Type 0} (P : X → Type 0) (n : ℕ) (xs : List X) → AllByRecursion P xs → AllByRecursion P (drop n xs)
all_drop P zero xs all = all
all_drop P (suc n) [] all = tt
all_drop P (suc n) (x ∷ xs) all = all_drop P n xs all.1

pub all_both : {X : Type 0} (P : X → Type 0) (xs ys : List X) → AllByRecursion P xs → AllByRecursion P ys → AllByRecursion P (xs ++ ys)
all_both P [] ys xs_all all = all
all_both P (x ∷ xs) ys xs_all all = (xs_all.0, all_both P xs ys xs_all.1 all)

-- ---- numbers of blocks

-- the number of a map block
pub record IsLowBlock (b : ℕ) : Type 0 where
  pub some : 0 < b
  pub low : b < 2 ^ 32

in_units : (b log_blocks units : ℕ) → units ≤ 64 → log_blocks ≤ 2048 → 2 + log_blocks ≤ b → b - (2 + log_blocks) < 4096 * units → IsLowBlock b
in_units b log_blocks units few short from there = record { some = omega arith; low = omega arith }

-- a data block's number is small
pub data_low : (s : State) → IsLaidOut s → (b : ℕ) → IsTrue (is_data (volume s.layout) b) → IsLowBlock b
unfolding is_data
data_low s is b h =
    let from = and_parts _ _ h in
    let within = and_parts _ _ from.1 in
    in_units b s.layout.log_blocks s.layout.units is.units_limit is.log_blocks (leb-true _ _ from.0) (ltb-true _ _ within.0)

-- ---- an inode's own bytes

all_long : (n i : ℕ) (ps : List (Option Extent)) → ArePlaces n i ps → list_all place_has_length ps ≡ true
all_long n i [] h = refl
all_long n i (None ∷ ps) h = all_long n (i + 1) ps h.1
all_long n i (Some e ∷ ps) h = and_from (nat_lt 0 e.len) (list_all place_has_length ps) (lt-ltb 0 e.len h.0.1.some) (all_long n (i + 1) ps h.1)

are_places : (es : List Extent) → AllByRecursion IsExtent es → ArePlaces (length es) 0 (places_of es)
are_places [] is = (omega arith, (omega arith, (omega arith, (omega arith, (omega arith, (omega arith, tt))))))
are_places (a ∷ []) is = ((omega arith, is.0), (omega arith, (omega arith, (omega arith, (omega arith, (omega arith, tt))))))
are_places (a ∷ b ∷ []) is = ((omega arith, is.0), ((omega arith, is.1.0), (omega arith, (omega arith, (omega arith, (omega arith, tt))))))
are_places (a ∷ b ∷ c ∷ []) is = ((omega arith, is.0), ((omega arith, is.1.0), ((omega arith, is.1.1.0), (omega arith, (omega arith, (omega arith, tt))))))
are_places (a ∷ b ∷ c ∷ d ∷ []) is = ((omega arith, is.0), ((omega arith, is.1.0), ((omega arith, is.1.1.0), ((omega arith, is.1.1.1.0), (omega arith, (omega arith, tt))))))
are_places (a ∷ b ∷ c ∷ d ∷ e ∷ []) is = ((omega arith, is.0), ((omega arith, is.1.0), ((omega arith, is.1.1.0), ((omega arith, is.1.1.1.0), ((omega arith, is.1.1.1.1.0), (omega arith, tt))))))
are_places (a ∷ b ∷ c ∷ d ∷ e ∷ f ∷ es) is = ((omega arith, is.0), ((omega arith, is.1.0), ((omega arith, is.1.1.0), ((omega arith, is.1.1.1.0), ((omega arith, is.1.1.1.1.0), ((omega arith, is.1.1.1.1.1.0), tt))))))

-- extents, and as many map blocks as they need
pub record IsHeldRight (h : Held) : Type 0 where
  pub each : AllByRecursion IsExtent h.extents
  pub few : length h.extents ≤ 4038
  pub maps : length h.maps ≡ chain_len 63 (length h.extents)
  pub low : AllByRecursion IsLowBlock h.maps

first_low : (ms : List ℕ) → AllByRecursion IsLowBlock ms → IfSome (first_of ms) (λ b. (0 < b) × (b < 2 ^ 32))
first_low [] all = tt
first_low (m ∷ ms) all = (all.0.some, all.0.low)

first_some : (ms : List ℕ) → is_some (first_of ms) ≡ nat_lt 0 (length ms)
first_some [] = refl
first_some (m ∷ ms) = sym (lt-ltb 0 (suc (length ms)) (omega arith))

first_is : (ms : List ℕ) → AllByRecursion IsLowBlock ms → is_map_number (first_of ms) ≡ true
first_is [] all = refl
first_is (m ∷ ms) all = lt-ltb 0 m all.0.some

few_maps : (h : Held) → IsHeldRight h → length h.maps < 2 ^ 16
few_maps h is = let count = is.maps in let few = is.few in let full = (chain_fills (length h.extents)).full in omega (arith, count, few, full)

-- an inode without attributes
abbrev bare : FileKind → (mode nlink size : ℕ) → Inode
bare kind mode nlink size = record { kind = kind; mode = mode; nlink = nlink; size = size; attrs = no_attrs }

-- numbers that fit their fields
record IsSmall (i : Inode) : Type 0 where
  mode : i.mode ≤ 4095
  nlink : i.nlink ≤ 32767
  size : i.size ≤ 2 ^ 26
  attrs : AreAttrs i.attrs

value_fits : (h : Held) (i : Inode) → IsHeldRight h → IsSmall i → attrs_fit layout1 i ≡ true → IsInode layout1 (value_of h i)
unfolding inode_fits
value_fits h i is small attrs =
    let places = are_places h.extents is.each in
    let long = all_long (length h.extents) 0 (places_of h.extents) places in
    let low = small.mode in
    let few = small.nlink in
    let short = small.size in
    let fixed = small.attrs.fixed in
    let reserve = small.attrs.reserve in record {
      fits = and_from _ _ (lt-ltb i.attrs.flags 32 small.attrs.flags)
          (and_from _ _ (le-leb i.mode 4095 low) (and_from _ _ (le-leb i.nlink 32767 few) (and_from _ _ (le-leb (length h.extents) 4038 is.few)
          (and_from _ _ (eq-eqb (length h.maps) (chain_len 63 (length h.extents)) is.maps) (and_from _ _ (first_is h.maps is.low) (and_from _ _ long attrs))))));
      mode = omega (arith, low);
      nlink = omega (arith, few);
      size = omega (arith, short);
      fixed = omega (arith, fixed);
      reserve = omega (arith, reserve);
      maps = few_maps h is;
      extents = (let count = is.few in omega (arith, count));
      six = refl;
      places = places;
      map = first_low h.maps is.low;
      chained = first_some h.maps;
    }

bare_small : (kind : FileKind) (mode nlink size : ℕ) → mode ≤ 4095 → nlink ≤ 32767 → size ≤ 2 ^ 26 → IsSmall (bare kind mode nlink size)
bare_small kind mode nlink size low few short = record { mode = low; nlink = few; size = short; attrs = record { fixed = lit≤ tt; reserve = lit≤ tt; flags = lit< tt } }

-- ---- what the device says of a file's attributes

abbrev file_inode : (f : File) (attrs : ExtAttrs) (size : ℕ) → Inode
file_inode f attrs size = record { kind = kind_of.File; mode = f.mode; nlink = f.nlink; size = size; attrs = attrs }

-- a file's attributes fit, where it keeps a reservation or has none
attrs_by : (f : File) (a : ExtAttrs) (size : ℕ) (t : Bool) → (bit_and a.flags 8 == 0) ≡ t → AreAttrs a → (t ≡ false → a.reserve ≡ 0) → size ≤ 2 ^ 26 → attrs_fit layout1 (file_inode f a size) ≡ true
attrs_by f a size t is small none short =
    let reserve = small.reserve in
    and_from _ _ (le-leb size (2 ^ 26) short)
    (and_from _ _ (le-leb a.fixed 4063 small.fixed) (and_from _ _ (le-leb a.reserve 65536 reserve) (and_from _ _ (le-leb (a.reserve * 1024) (2 ^ 26) (omega (arith, reserve))) (last t is none))))
  where
    last : (t : Bool) → (bit_and a.flags 8 == 0) ≡ t → (t ≡ false → a.reserve ≡ 0) → (bit_and a.flags 8 == 0 || a.reserve == 0) ≡ true
    last true is none = ap (λ (u : Bool). u || a.reserve == 0) is
    last false is none = ap (λ (u : Bool). u || a.reserve == 0) is ∙ eq-eqb a.reserve 0 (none refl)

record AreKept (f : File) (size : ℕ) (a : ExtAttrs) : Type 0 where
  small : AreAttrs a
  fit : attrs_fit layout1 (file_inode f a size) ≡ true

kept_by : (f : File) (size : ℕ) (t : Bool) → (bit_and f.attrs.flags 8 == 0) ≡ t → AreAttrs f.attrs → size ≤ 2 ^ 26 → AreKept f size (cond t f.attrs (record f.attrs { reserve = 0 }))
kept_by f size true is small short = record { small = small; fit = attrs_by f f.attrs size true is small (λ e. absurd cc) short }
kept_by f size false is small short =
    let none : AreAttrs (record f.attrs { reserve = 0 }) = record { fixed = small.fixed; reserve = lit≤ tt; flags = small.flags } in
    record { small = none; fit = attrs_by f (record f.attrs { reserve = 0 }) size false is none (λ e. refl) short }

attrs_kept : (f : File) (size : ℕ) → AreAttrs f.attrs → size ≤ 2 ^ 26 → AreKept f size (kept_attrs f.attrs)
attrs_kept f size small short = kept_by f size (bit_and f.attrs.flags 8 == 0) refl small short

-- ---- the blocks of an inode

or_left : (a b : Bool) → a ≡ true → (a || b) ≡ true
or_left true b h = refl
or_left false b h = absurd cc

or_right : (a b : Bool) → b ≡ true → (a || b) ≡ true
or_right true b h = refl
or_right false b h = h

pub all_among : (P : ℕ → Type 0) (xs : List ℕ) → ((b : ℕ) → among xs b ≡ true → P b) → AllByRecursion P xs
all_among P [] each = tt
all_among P (x ∷ xs) each =
    (each x (or_left (x == x) (among xs x) (eq-eqb x x refl)), all_among P xs (λ b h. each b (or_right (b == x) (among xs b) h)))

among_all_by : (l : Layout) (x : ℕ) (xs : List ℕ) (b : ℕ) (t : Bool) → (b == x) ≡ t → IsTrue (is_data (volume l) x) → (among xs b ≡ true → IsTrue (is_data (volume l) b)) → (t || among xs b) ≡ true → IsTrue (is_data (volume l) b)
among_all_by l x xs b true e here rest h = subst (λ (c : ℕ). IsTrue (is_data (volume l) c)) (sym (eqb-true b x e)) here
among_all_by l x xs b false e here rest h = rest h

pub all_first : {X : Type 0} (P : X → Type 0) (xs ys : List X) → AllByRecursion P (xs ++ ys) → AllByRecursion P xs
all_first P [] ys all = tt
all_first P (x ∷ xs) ys all = (all.0, all_first P xs ys all.1)

pub all_second : {X : Type 0} (P : X → Type 0) (xs ys : List X) → AllByRecursion P (xs ++ ys) → AllByRecursion P ys
all_second P [] ys all = all
all_second P (x ∷ xs) ys all = all_second P xs ys all.1

pub all_more : {X : Type 0} (P Q : X → Type 0) → ((x : X) → P x → Q x) → (xs : List X) → AllByRecursion P xs → AllByRecursion Q xs
all_more P Q more [] all = tt
all_more P Q more (x ∷ xs) all = (more x all.0, all_more P Q more xs all.1)

abbrev IsDataBlock : Layout → ℕ → Type 0
IsDataBlock l b = IsTrue (is_data (volume l) b)

no_blocks : (ds : List DirectoryBlock) (ys : List ℕ) → block_numbers ds ++ ys ≡ [] → (ds ≡ []) × (ys ≡ [])
no_blocks [] ys e = (refl, e)
no_blocks (d ∷ ds) ys e = absurd cc

-- where nothing stands
pub nothing_at : (l : Layout) (n : ℕ) → HasNothing l n → (blocks_at l n ≡ []) × (maps_at l n ≡ [])
nothing_at l n h =
    let parts = no_blocks (blocks_at l n) (page_blocks (space_at l n).present ++ maps_at l n) h.none in
    (parts.0, ap (λ (x : Space). page_blocks x.present ++ maps_at l n) (sym h.space) ∙ parts.1)

pub no_pages : (l : Layout) (n : ℕ) → HasNothing l n → settled_at l n ≡ []
no_pages l n h = ap (λ ds. pages_from 0 ds ++ (space_at l n).settled) (nothing_at l n h).0 ∙ ap (λ (x : Space). x.settled) h.space

pub file_pages : (l : Layout) (n : ℕ) (f : File) → IsFileOf l n f → settled_at l n ≡ (space_at l n).settled
file_pages l n f h = ap (λ (ds : List DirectoryBlock). pages_from 0 ds ++ (space_at l n).settled) h.no_blocks

pub directory_pages : (l : Layout) (n : ℕ) (d : Directory) → IsDirectoryOf l n d → settled_at l n ≡ pages_from 0 (blocks_at l n)
directory_pages l n d h = ap (λ (x : Space). pages_from 0 (blocks_at l n) ++ x.settled) h.space ∙ append-nil (pages_from 0 (blocks_at l n))

pub page_count : (page : ℕ) (ds : List DirectoryBlock) → length (pages_from page ds) ≡ length ds
page_count page [] = refl
page_count page (d ∷ ds) = ap suc (page_count (page + 1) ds)

low_pages : (page : ℕ) (ds : List DirectoryBlock) → AllByRecursion IsLowBlock (block_numbers ds) → page + length ds < 2 ^ 32 → AllByRecursion IsLowPage (pages_from page ds)
low_pages page [] all few = tt
low_pages page (d ∷ ds) all few = (record { page = omega (arith, few); block = all.0.low }, low_pages (page + 1) ds all.1 (omega (arith, few)))

low_rising : (from : ℕ) (pages : List Mapped) → AreRising from pages → AllByRecursion IsLowBlock (page_blocks pages) → AllByRecursion IsLowPage pages
low_rising from [] rises all = tt
low_rising from (m ∷ pages) rises all =
    let page : m.page < 65536 = rises.1 in
    (record { page = omega (arith, page); block = all.0.low }, low_rising (m.page + 1) pages rises.2 all.1)

rising_short : (from : ℕ) (pages : List Mapped) → AreRising from pages → from ≤ 65536 → from + length pages ≤ 65536
rising_short from [] rises low = omega (arith, low)
rising_short from (m ∷ pages) rises low =
    let above : from ≤ m.page = rises.0 in
    let page : m.page < 65536 = rises.1 in
    let rest = rising_short (m.page + 1) pages rises.2 (omega (arith, page)) in omega (arith, above, rest)

module _ (s : State) (is : IsLaidOut s) where
  abbrev l : Layout
  l = s.layout

  pub owned_data : (n : ℕ) → AllByRecursion (IsDataBlock l) (owned l n)
  owned_data n = all_among (IsDataBlock l) (owned l n) (is.use_of_blocks.data_blocks n)

  pub names_data : (n : ℕ) → AllByRecursion (IsDataBlock l) (block_numbers (blocks_at l n))
  names_data n = all_first (IsDataBlock l) (block_numbers (blocks_at l n)) (page_blocks (space_at l n).present ++ maps_at l n) (owned_data n)

  pub maps_data : (n : ℕ) → AllByRecursion (IsDataBlock l) (settled_maps l n)
  maps_data n =
      all_take (IsDataBlock l) (maps_for (settled_at l n)) (maps_at l n) (all_second (IsDataBlock l) (page_blocks (space_at l n).present) (maps_at l n)
      (all_second (IsDataBlock l) (block_numbers (blocks_at l n)) (page_blocks (space_at l n).present ++ maps_at l n) (owned_data n)))

  among_all : (xs : List ℕ) → AllByRecursion (IsDataBlock l) xs → (b : ℕ) → among xs b ≡ true → IsDataBlock l b
  among_all [] all b h = absurd cc
  among_all (x ∷ xs) all b h = among_all_by l x xs b (b == x) refl all.0 (among_all xs all.1 b) h

  pub pages_data : (n : ℕ) → AllByRecursion (IsDataBlock l) (page_blocks (space_at l n).settled)
  pages_data n =
      let x : Space = space_at l n in
      let all = all_first (IsDataBlock l) (page_blocks x.present) (maps_at l n) (all_second (IsDataBlock l) (block_numbers (blocks_at l n)) (page_blocks x.present ++ maps_at l n) (owned_data n)) in
      all_among (IsDataBlock l) (page_blocks x.settled) (λ b there.
      let part = part_uses x.settled x.present (settled_part s is n) b in
      let some = among_uses (page_blocks x.settled) b there in
      among_all (page_blocks x.present) all b (is_among (page_blocks x.present) b (omega (arith, part, some))))

  low_of : (xs : List ℕ) → AllByRecursion (IsDataBlock l) xs → AllByRecursion IsLowBlock xs
  low_of = all_more (IsDataBlock l) IsLowBlock (data_low s is)

  -- ---- an inode's extents and map blocks

  maps_by : (n : ℕ) → maps_for (settled_at l n) ≤ length (maps_at l n) → length (settled_maps l n) ≡ maps_for (settled_at l n)
  maps_by n long = length-take-le (maps_for (settled_at l n)) (maps_at l n) long

  nothing_right : (n : ℕ) → HasNothing l n → IsHeldRight (settled_of l n)
  nothing_right n h =
      let none = no_pages l n h in record {
        each = subst (λ ps. AllByRecursion IsExtent (stretches ps)) (sym none) tt;
        few = subst (λ ps. extent_count ps ≤ 4038) (sym none) (omega arith);
        maps = maps_by n (subst (λ ps. maps_for ps ≤ length (maps_at l n)) (sym none) (omega arith));
        low = low_of (settled_maps l n) (maps_data n);
      }

  directory_right : (n : ℕ) (d : Directory) → IsDirectoryOf l n d → IsHeldRight (settled_of l n)
  directory_right n d h =
      let pages = directory_pages l n d h in
      let few : length (blocks_at l n) ≤ 64 = (let one = h.few in let two = is.limit in omega (arith, one, two)) in
      let count = page_count 0 (blocks_at l n) in
      let low = low_pages 0 (blocks_at l n) (low_of (block_numbers (blocks_at l n)) (names_data n)) (omega (arith, few)) in
      let extents = are_extents (pages_from 0 (blocks_at l n)) low (omega (arith, few, count)) in
      let number = few_stretches (pages_from 0 (blocks_at l n)) in record {
        each = subst (λ ps. AllByRecursion IsExtent (stretches ps)) (sym pages) extents;
        few = subst (λ ps. extent_count ps ≤ 4038) (sym pages) (omega (arith, few, count, number));
        maps = maps_by n (subst (λ ps. maps_for ps ≤ length (maps_at l n)) (sym pages) (let as_many = h.maps in omega (arith, as_many)));
        low = low_of (settled_maps l n) (maps_data n);
      }

  file_right : (n : ℕ) (f : File) → IsFileOf l n f → IsHeldRight (settled_of l n)
  file_right n f h =
      let x : Space = space_at l n in
      let pages = file_pages l n f h in
      let low = low_rising 0 x.settled h.space.settled_rises (low_of (page_blocks x.settled) (pages_data n)) in
      let short = rising_short 0 x.settled h.space.settled_rises (omega arith) in
      let extents = are_extents x.settled low (omega (arith, short)) in
      let few : extent_count x.settled ≤ 4038 = (let most = h.space.extents in omega (arith, most)) in
      let chain : maps_for x.settled ≤ length (maps_at l n) = (let needed = h.space.chain in omega (arith, needed)) in record {
        each = subst (λ ps. AllByRecursion IsExtent (stretches ps)) (sym pages) extents;
        few = subst (λ ps. extent_count ps ≤ 4038) (sym pages) few;
        maps = maps_by n (subst (λ ps. maps_for ps ≤ length (maps_at l n)) (sym pages) chain);
        low = low_of (settled_maps l n) (maps_data n);
      }

  pub node_right : (n : ℕ) (node : Node) → IsNodeOf l n node → IsHeldRight (settled_of l n)
  node_right n (IsFile f) h = file_right n f h
  node_right n (IsDirectory d) h = directory_right n d h

  -- ---- inodes

  pub file_size : (n : ℕ) (f : File) → IsFileOf l n f → (settled_of l n).size ≡ (space_at l n).size
  file_size n f h = let none : length (blocks_at l n) ≡ 0 = ap (λ (ds : List DirectoryBlock). length ds) h.no_blocks in omega (arith, none)

  directory_size : (n : ℕ) (d : Directory) → IsDirectoryOf l n d → (settled_of l n).size ≡ 1024 * length (blocks_at l n)
  directory_size n d h = let size : (space_at l n).size ≡ 0 = ap (λ (x : Space). x.size) h.space in omega (arith, size)

  directory_attrs : (mode blocks : ℕ) → blocks ≤ 64 → attrs_fit layout1 (bare kind_of.Directory mode 1 (1024 * blocks)) ≡ true
  directory_attrs mode blocks few =
      and_from _ _ (and_from _ _ (eq-eqb ((1024 * blocks) % 1024) 0 (omega arith)) (le-leb (1024 * blocks) 65536 (omega (arith, few)))) refl

  node_fits : (n : ℕ) (node : Node) → IsNodeOf l n node → IsInode layout1 (inode_for (settled_of l n) node)
  node_fits n (IsFile f) h =
      let size = file_size n f h in
      let most = h.space.settled_size in
      let kept = attrs_kept f (settled_of l n).size h.attrs (omega (arith, size, most)) in
      value_fits (settled_of l n) (file_inode f (kept_attrs f.attrs) (settled_of l n).size) (file_right n f h)
      (record { mode = h.mode; nlink = h.few_links; size = omega (arith, size, most); attrs = kept.small }) kept.fit
  node_fits n (IsDirectory d) h =
      let few : length (blocks_at l n) ≤ 64 = (let one = h.few in let two = is.limit in omega (arith, one, two)) in
      let fits = value_fits (settled_of l n) (bare kind_of.Directory d.mode 1 (1024 * length (blocks_at l n))) (directory_right n d h)
      (bare_small kind_of.Directory d.mode 1 (1024 * length (blocks_at l n)) h.mode (lit≤ tt) (omega (arith, few))) (directory_attrs d.mode (length (blocks_at l n)) few) in
      subst (λ (k : ℕ). IsInode layout1 (value_of (settled_of l n) (bare kind_of.Directory d.mode 1 k))) (sym (directory_size n d h)) fits

  fits_by : (n : ℕ) (o : Option Node) → IsHeld l n o → IfSome (option_map (inode_for (settled_of l n)) o) (λ i. IsInode layout1 i × (n < 128 * l.units))
  fits_by n None h = tt
  fits_by n (Some node) h = (node_fits n node h.0, h.2)

  -- ---- blocks

  abbrev FormFits : ℕ → Form → Type 0
  FormFits b x = IsForm 1024 x × IsTrue (is_data (volume l) b)

  abbrev Fits : Claimed → Type 0
  Fits c = IfSome c.form (FormFits c.block)

  names_fit : (ds : List DirectoryBlock) → AllByRecursion (λ (d : DirectoryBlock). IsDir 1024 d.entries) ds → AllByRecursion (IsDataBlock l) (block_numbers ds) → AllByRecursion Fits (map names_claimed ds)
  names_fit [] spelled data_ = tt
  names_fit (d ∷ ds) spelled data_ = ((spelled.0, data_.0), names_fit ds spelled.1 data_.1)

  pages_fit : (ms : List Mapped) → AllByRecursion Fits (map page_claimed ms)
  pages_fit [] = tt
  pages_fit (m ∷ ms) = (tt, pages_fit ms)

  pub chain_fits : (n : ℕ) (es : List Extent) (ms : List ℕ) → n < 2 ^ 32 → AllByRecursion IsExtent es → AllByRecursion (IsDataBlock l) ms → 63 * length ms < length es + 63 → AllByRecursion Fits (chain_of n es ms)
  chain_fits n es [] low each data_ full = tt
  chain_fits n es (b ∷ bs) low each data_ full =
      let taken = length-take 63 es in
      let left = length-drop 63 es in
      let map_is : IsMap 1024 (record { next = first_of bs; ino = n; extents = take 63 es }) = record {
        some = omega (arith, taken, full);
        most = omega (arith, taken);
        next = first_low bs (low_of bs data_.1);
        ino = low;
        each = all_take IsExtent 63 es each;
      } in
      ((map_is, data_.0), chain_fits n (drop 63 es) bs low (all_drop IsExtent 63 es each) data_.1 (omega (arith, left, full)))

  held_fits : (n : ℕ) → n < 128 * l.units → IsHeldRight (settled_of l n) → AllByRecursion Fits (map names_claimed (blocks_at l n)) → AllByRecursion Fits (claimed_at l n)
  held_fits n there right names =
      let es : List Extent = stretches (settled_at l n) in
      let left = length-drop 6 es in
      let count = right.maps in
      let full = (chain_fills (length es)).full in
      let units = is.units_limit in
      let chain = chain_fits n (drop 6 es) (settled_maps l n) (omega (arith, there, units)) (all_drop IsExtent 6 es right.each) (maps_data n) (omega (arith, left, count, full)) in
      all_both Fits (map names_claimed (blocks_at l n)) (map page_claimed (space_at l n).settled ++ chain_at l n) names
      (all_both Fits (map page_claimed (space_at l n).settled) (chain_at l n) (pages_fit (space_at l n).settled) chain)

  nothing_fits : (n : ℕ) → HasNothing l n → AllByRecursion Fits (claimed_at l n)
  nothing_fits n h =
      let maps : settled_maps l n ≡ [] = ap (take (maps_for (settled_at l n))) (nothing_at l n h).1 ∙ take_none (maps_for (settled_at l n)) in
      all_both Fits (map names_claimed (blocks_at l n)) (map page_claimed (space_at l n).settled ++ chain_at l n)
      (subst (λ ds. AllByRecursion Fits (map names_claimed ds)) (sym (nothing_at l n h).0) tt)
      (all_both Fits (map page_claimed (space_at l n).settled) (chain_at l n) (pages_fit (space_at l n).settled)
      (subst (λ ms. AllByRecursion Fits (chain_of n (drop 6 (stretches (settled_at l n))) ms)) (sym maps) tt))

  claims_fit : (n : ℕ) (o : Option Node) → IsHeld l n o → AllByRecursion Fits (claimed_at l n)
  claims_fit n None h = nothing_fits n h
  claims_fit n (Some (IsFile f)) h = held_fits n h.2 (file_right n f h.0) (subst (λ (ds : List DirectoryBlock). AllByRecursion Fits (map names_claimed ds)) (sym h.0.no_blocks) tt)
  claims_fit n (Some (IsDirectory d)) h = held_fits n h.2 (directory_right n d h.0) (names_fit (blocks_at l n) h.0.spelled (names_data n))

  abbrev ClaimFits : ℕ → Claim → Type 0
  ClaimFits b c = IfSome c.form (FormFits b)

  one_fits : (n b : ℕ) (d : Claimed) (cs : List Claimed) (c : Claim) (t : Bool) → (b == d.block) ≡ t → Fits d → (claim_among n b cs ≡ Some c → ClaimFits b c)
      → cond t (Some (record { ino = n; form = d.form })) (claim_among n b cs) ≡ Some c → ClaimFits b c
  one_fits n b d cs c true is_it fits rest h =
      let e : record { ino = n; form = d.form } ≡ c = cc in
      subst (λ (k : ℕ). ClaimFits k c) (sym (eqb-true b d.block is_it)) (subst (λ (x : Claim). ClaimFits d.block x) e fits)
  one_fits n b d cs c false is_it fits rest h = rest h

  among_fits : (n b : ℕ) (cs : List Claimed) (c : Claim) → AllByRecursion Fits cs → claim_among n b cs ≡ Some c → ClaimFits b c
  among_fits n b [] c all h = absurd cc
  among_fits n b (d ∷ cs) c all h = one_fits n b d cs c (b == d.block) refl all.0 (among_fits n b cs c all.1) h

  or_fits : (b : ℕ) (c : Claim) (first rest : Option Claim) → (first ≡ Some c → ClaimFits b c) → (rest ≡ Some c → ClaimFits b c) → or_claim first rest ≡ Some c → ClaimFits b c
  or_fits b c None rest this other h = other h
  or_fits b c (Some x) rest this other h = this h

  below_fits : (b : ℕ) (c : Claim) (n : ℕ) → claim_below l b n ≡ Some c → ClaimFits b c
  unfolding claim_below
  below_fits b c zero h = absurd cc
  below_fits b c (suc n) h =
      or_fits b c (claim_among n b (claimed_at l n)) (claim_below l b n) (among_fits n b (claimed_at l n) c (claims_fit n (map_of.get s.tree.nodes n) (is.nodes n))) (below_fits b c n) h

  forms_by : (b : ℕ) (o : Option Claim) → claim_of l b ≡ o → IfSome (option_and_then (λ (c : Claim). c.form) o) (FormFits b)
  forms_by b None e = tt
  forms_by b (Some c) e = below_fits b c (128 * l.units) e

  pub spelled : IsSpelled (volume l) (parsed_of s)
  spelled = record {
    inodes = λ n. fits_by n (map_of.get s.tree.nodes n) (is.nodes n);
    forms = λ b. forms_by b (claim_of l b) refl;
  }
