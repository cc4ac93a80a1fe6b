-- Which blocks inodes claim, and how that changes with one inode's blocks.
use Rattle.std.proofs.Common.{◌≡◌, ◌≢◌, ℕ, zero, suc, ◌+◌, ◌*◌, ◌≤◌, Bool, true, false, cond, List, [], ◌∷◌, ◌++◌, length, take, drop, Option, Some, None, refl, sym, ap, ◌∙◌, arith}
use Rattle.std.specs.Prelude.{◌||◌, ◌==◌, is_some, slice_get}
use Rattle.std.specs.Option.{option_map}
use Rattle.std.proofs.lemmas.Bool.{eq-eqb, eqb-true, true≢false, or_parts}
use Rattle.std.proofs.lemmas.List.{append-nil, append_assoc, take_all, length-map, map-append}
use Rattle.std.proofs.lemmas.List.Folds.{list_any-append}
use Rattle.vx_base.specs.declared.kind.Kind.TheVariants.{Data}
use Rattle.vx_extents.specs.Extents.{Mapped, stretches}
use Rattle.vx_space.specs.Space.{Space, no_space, page_blocks, maps_for}
use Rattle.vx_model.specs.Layout.{DirectoryBlock, Layout, Claim, Claimed, blocks_at, space_at, maps_at, block_numbers, owned, pages_from, settled_at, settled_maps, chain_of, chain_at, given_up, claimed_at, claim_among, or_claim, claim_below, claim_of, device_blocks, is_on_device_below, is_on_device}
use Rattle.vx_model.specs.Images.{among}
use Rattle.vx_model.specs.Contents.{settled_of}
use Rattle.vx_space.specs.Uses.{uses}
use Rattle.vx_model.specs.State.{State}
use Rattle.vx_model.specs.LaidOut.{IsLaidOut}
use Rattle.vx_model.proofs.Claims.{claimed, claims_split, claims_owned, claimed_blocks}
use Rattle.vx_model.proofs.Uses.{uses_append}
use Rattle.vx_model.proofs.NextBlock.{page_numbers}

-- ---- numbers in a list

pub not_first : (x y : ℕ) (ys : List ℕ) → among (y ∷ ys) x ≡ false → x ≢ y
not_first x y ys h e = true≢false (sym (eq-eqb x y e) ∙ (or_parts (x == y) (among ys x) h).0)

-- ---- claims among those of one inode

-- a claim that is found stands there
pub record IsFound (n b : ℕ) (x : Claim) (cs : List Claimed) : Type 0 where
  pub place : ℕ
  pub found : Claimed
  pub stands : slice_get cs place ≡ Some found
  pub block : found.block ≡ b
  pub claim : x ≡ record { ino = n; form = found.form }

found_by : (n b : ℕ) (x : Claim) (c : Claimed) (cs : List Claimed) (t : Bool) → (b == c.block) ≡ t → (claim_among n b cs ≡ Some x → IsFound n b x cs)
    → cond t (Some (record { ino = n; form = c.form })) (claim_among n b cs) ≡ Some x → IsFound n b x (c ∷ cs)
found_by n b x c cs true is rest h =
    let e : record { ino = n; form = c.form } ≡ x = cc in
    record { place = 0; found = c; stands = refl; block = sym (eqb-true b c.block is); claim = sym e }
found_by n b x c cs false is rest h =
    let more = rest h in
    record { place = suc more.place; found = more.found; stands = more.stands; block = more.block; claim = more.claim }

pub found_among : (n b : ℕ) (x : Claim) (cs : List Claimed) → claim_among n b cs ≡ Some x → IsFound n b x cs
found_among n b x [] h = absurd cc
found_among n b x (c ∷ cs) h = found_by n b x c cs (b == c.block) refl (found_among n b x cs) h

-- ---- claims among all inodes

some_or : (a c : Option Claim) → is_some (or_claim a c) ≡ (is_some a || is_some c)
some_or None c = refl
some_or (Some x) c = refl

pub some_map : {X : Type 0} (f : Claim → X) (o : Option Claim) → is_some (option_map f o) ≡ is_some o
some_map f None = refl
some_map f (Some c) = refl

-- the inode that claims a block
pub record IsClaim (l : Layout) (b : ℕ) (x : Claim) : Type 0 where
  pub ino : ℕ
  pub among : IsFound ino b x (claimed_at l ino)

claim_by : (l : Layout) (b n : ℕ) (x : Claim) (o : Option Claim) → claim_among n b (claimed_at l n) ≡ o → (claim_below l b n ≡ Some x → IsClaim l b x) → or_claim o (claim_below l b n) ≡ Some x → IsClaim l b x
claim_by l b n x None is rest h = rest h
claim_by l b n x (Some c) is rest h = record { ino = n; among = found_among n b x (claimed_at l n) (is ∙ h) }

pub claim_is : (l : Layout) (b : ℕ) (x : Claim) (n : ℕ) → claim_below l b n ≡ Some x → IsClaim l b x
unfolding claim_below
claim_is l b x zero h = absurd cc
claim_is l b x (suc n) h = claim_by l b n x (claim_among n b (claimed_at l n)) refl (claim_is l b x n) h

used_below : (l m : Layout) (b : ℕ) → ((n : ℕ) → is_some (claim_among n b (claimed_at m n)) ≡ is_some (claim_among n b (claimed_at l n))) → (n : ℕ) → is_some (claim_below m b n) ≡ is_some (claim_below l b n)
unfolding claim_below
used_below l m b same zero = refl
used_below l m b same (suc n) =
    some_or (claim_among n b (claimed_at m n)) (claim_below m b n)
    ∙ (λ i. same n i || used_below l m b same n i)
    ∙ sym (some_or (claim_among n b (claimed_at l n)) (claim_below l b n))

claims_below : (l m : Layout) (b : ℕ) → ((n : ℕ) → claimed_at m n ≡ claimed_at l n) → (n : ℕ) → claim_below m b n ≡ claim_below l b n
unfolding claim_below
claims_below l m b same zero = refl
claims_below l m b same (suc n) = λ i. or_claim (claim_among n b (same n i)) (claims_below l m b same n i)

-- inodes with the same claims claim the same
pub claims_same : (l m : Layout) (b : ℕ) → m.units ≡ l.units → ((n : ℕ) → claimed_at m n ≡ claimed_at l n) → claim_of m b ≡ claim_of l b
claims_same l m b units same = ap (λ u. claim_below m b (128 * u)) units ∙ claims_below l m b same (128 * l.units)

-- ---- the blocks that an inode claims

-- they don't depend on what stands there
abbrev pub numbers_claimed : Layout → ℕ → List ℕ
numbers_claimed l n = block_numbers (blocks_at l n) ++ (page_blocks (space_at l n).settled ++ settled_maps l n)

pub used_same : (l m : Layout) (b : ℕ) → m.units ≡ l.units → ((n : ℕ) → among (numbers_claimed m n) b ≡ among (numbers_claimed l n) b) → is_some (claim_of m b) ≡ is_some (claim_of l b)
used_same l m b units same =
    ap (λ u. is_some (claim_below m b (128 * u))) units
    ∙ used_below l m b (λ n.
    claimed n b (claimed_at m n) ∙ ap (λ (xs : List ℕ). among xs b) (claims_split m n)
    ∙ same n
    ∙ sym (claimed n b (claimed_at l n) ∙ ap (λ (xs : List ℕ). among xs b) (claims_split l n))) (128 * l.units)

-- ---- what an inode gives up

not_taken : (k : ℕ) (xs : List ℕ) (b : ℕ) → among xs b ≡ false → among (take k xs) b ≡ false
not_taken zero xs b h = refl
not_taken (suc k) [] b h = refl
not_taken (suc k) (x ∷ xs) b h = let parts = or_parts (b == x) (among xs b) h in λ i. parts.0 i || not_taken k xs b parts.1 i

pub settled_blocks : (l : Layout) (n : ℕ) → page_blocks (settled_at l n) ≡ block_numbers (blocks_at l n) ++ page_blocks (space_at l n).settled
settled_blocks l n =
    map-append (λ (m : Mapped). m.block) (pages_from 0 (blocks_at l n)) (space_at l n).settled
    ∙ ap (λ (bs : List ℕ). bs ++ page_blocks (space_at l n).settled) (page_numbers 0 (blocks_at l n))

-- what it does not give up it does not claim
pub given_claims : (l : Layout) (n b : ℕ) → among (given_up l n) b ≡ false → among (numbers_claimed l n) b ≡ false
given_claims l n b h =
    let ns : List ℕ = block_numbers (blocks_at l n) in
    let ps : List ℕ = page_blocks (space_at l n).settled in
    let all = sym (list_any-append (λ y. b == y) (ns ++ ps) (maps_at l n)) ∙ ap (λ (xs : List ℕ). among (xs ++ maps_at l n) b) (sym (settled_blocks l n)) ∙ h in
    let two = or_parts (among (ns ++ ps) b) (among (maps_at l n) b) all in
    let pages = or_parts (among ns b) (among ps b) (sym (list_any-append (λ y. b == y) ns ps) ∙ two.0) in
    list_any-append (λ y. b == y) ns (ps ++ settled_maps l n)
    ∙ (λ i. pages.0 i || (list_any-append (λ y. b == y) ps (settled_maps l n) ∙ (λ j. pages.1 j || not_taken (maps_for (settled_at l n)) (maps_at l n) b two.1 j)) i)

-- ---- the blocks that the device says an inode has, its map blocks first

or_swap : (a b : Bool) → (a || b) ≡ (b || a)
or_swap true true = refl
or_swap true false = refl
or_swap false true = refl
or_swap false false = refl

device_are : (l : Layout) (n : ℕ) → device_blocks l n ≡ settled_maps l n ++ (block_numbers (blocks_at l n) ++ page_blocks (space_at l n).settled)
device_are l n = ap (λ (bs : List ℕ). settled_maps l n ++ bs) (settled_blocks l n)

claimed_are : (l : Layout) (n : ℕ) → numbers_claimed l n ≡ (block_numbers (blocks_at l n) ++ page_blocks (space_at l n).settled) ++ settled_maps l n
claimed_are l n = sym (append_assoc (block_numbers (blocks_at l n)) (page_blocks (space_at l n).settled) (settled_maps l n))

among_device : (l : Layout) (n b : ℕ) → among (numbers_claimed l n) b ≡ among (device_blocks l n) b
among_device l n b =
    let both : List ℕ = block_numbers (blocks_at l n) ++ page_blocks (space_at l n).settled in
    ap (λ (xs : List ℕ). among xs b) (claimed_are l n) ∙ list_any-append (λ y. b == y) both (settled_maps l n) ∙ or_swap (among both b) (among (settled_maps l n) b)
    ∙ sym (list_any-append (λ y. b == y) (settled_maps l n) both) ∙ ap (λ (xs : List ℕ). among xs b) (sym (device_are l n))

module _ (l : Layout) (b : ℕ) where
  on_device_below : (n : ℕ) → is_some (claim_below l b n) ≡ is_on_device_below l b n
  unfolding claim_below is_on_device_below
  on_device_below zero = refl
  on_device_below (suc n) =
      some_or (claim_among n b (claimed_at l n)) (claim_below l b n)
      ∙ (λ i. (claimed n b (claimed_at l n) ∙ ap (λ (xs : List ℕ). among xs b) (claims_split l n) ∙ among_device l n b) i || on_device_below n i)

  pub claimed_on_device : is_some (claim_of l b) ≡ is_on_device l b
  claimed_on_device = on_device_below (128 * l.units)

pub device_within : (s : State) → IsLaidOut s → (n b : ℕ) → uses (device_blocks s.layout n) b ≤ uses (owned s.layout n) b
device_within s is n b =
    let l : Layout = s.layout in
    let both : List ℕ = block_numbers (blocks_at l n) ++ page_blocks (space_at l n).settled in
    let low = claims_owned s is n b in
    let said : uses (claimed_blocks (claimed_at l n)) b ≡ uses (both ++ settled_maps l n) b = ap (λ (xs : List ℕ). uses xs b) (claims_split l n ∙ claimed_are l n) in
    let device : uses (device_blocks l n) b ≡ uses (settled_maps l n ++ both) b = ap (λ (xs : List ℕ). uses xs b) (device_are l n) in
    let one_way = uses_append both (settled_maps l n) b in
    let other_way = uses_append (settled_maps l n) both b in
    omega (arith, low, said, device, one_way, other_way)

-- an inode whose pages are all on the device claims all that it has
pub record IsWhole (l : Layout) (n : ℕ) : Type 0 where
  pub space : space_at l n ≡ no_space
  pub maps : length (maps_at l n) ≡ maps_for (pages_from 0 (blocks_at l n))

pub whole_claims : (l : Layout) (n : ℕ) → IsWhole l n → numbers_claimed l n ≡ owned l n
whole_claims l n is =
    let pages : settled_at l n ≡ pages_from 0 (blocks_at l n) = ap (λ (x : Space). pages_from 0 (blocks_at l n) ++ x.settled) is.space ∙ append-nil (pages_from 0 (blocks_at l n)) in
    let count : maps_for (settled_at l n) ≡ length (maps_at l n) = ap maps_for pages ∙ sym is.maps in
    let all : settled_maps l n ≡ maps_at l n = ap (λ (k : ℕ). take k (maps_at l n)) count ∙ take_all (length (maps_at l n)) (maps_at l n) (arith_le (length (maps_at l n))) in
    let none : page_blocks (space_at l n).settled ≡ page_blocks (space_at l n).present = ap (λ (x : Space). page_blocks x.settled) is.space ∙ sym (ap (λ (x : Space). page_blocks x.present) is.space) in
    λ i. block_numbers (blocks_at l n) ++ (none i ++ all i)
  where
    arith_le : (k : ℕ) → k ≤ k
    arith_le k = omega arith

-- ---- two layouts that have the same blocks of an inode, whatever their entries

pub record HasSame (l m : Layout) (n : ℕ) : Type 0 where
  pub numbers : block_numbers (blocks_at m n) ≡ block_numbers (blocks_at l n)
  pub space : space_at m n ≡ space_at l n
  pub maps : maps_at m n ≡ maps_at l n

abbrev pages_by : ℕ → List ℕ → List Mapped
pages_by p [] = []
pages_by p (b ∷ bs) = record { page = p; block = b; kind = Data } ∷ pages_by (suc p) bs

pages_are : (p : ℕ) (ds : List DirectoryBlock) → pages_from p ds ≡ pages_by p (block_numbers ds)
pages_are p [] = refl
pages_are p (d ∷ ds) =
    let next : ◌≡◌ {A = ℕ} (p + 1) (suc p) = omega arith in
    ap (λ (ms : List Mapped). record { page = p; block = d.block; kind = Data } ∷ ms) (ap (λ (q : ℕ). pages_from q ds) next ∙ pages_are (suc p) ds)

pub pages_same : (p : ℕ) (ds es : List DirectoryBlock) → block_numbers ds ≡ block_numbers es → pages_from p ds ≡ pages_from p es
pages_same p ds es same = pages_are p ds ∙ ap (pages_by p) same ∙ sym (pages_are p es)

pub same_length : (ds es : List DirectoryBlock) → block_numbers ds ≡ block_numbers es → length ds ≡ length es
same_length ds es same = sym (length-map ds (λ (d : DirectoryBlock). d.block)) ∙ ap (λ (ns : List ℕ). length ns) same ∙ length-map es (λ (d : DirectoryBlock). d.block)

module _ (l m : Layout) (n : ℕ) (is : HasSame l m n) where
  pub same_owned : owned m n ≡ owned l n
  same_owned = λ i. is.numbers i ++ (page_blocks (is.space i).present ++ is.maps i)

  same_pages : pages_from 0 (blocks_at m n) ≡ pages_from 0 (blocks_at l n)
  same_pages = pages_same 0 (blocks_at m n) (blocks_at l n) is.numbers

  same_settled : settled_at m n ≡ settled_at l n
  same_settled = λ i. same_pages i ++ (is.space i).settled

  same_maps : settled_maps m n ≡ settled_maps l n
  same_maps = λ i. take (maps_for (same_settled i)) (is.maps i)

  pub same_chain : chain_at m n ≡ chain_at l n
  same_chain = λ i. chain_of n (drop 6 (stretches (same_settled i))) (same_maps i)

  pub same_claimed : numbers_claimed m n ≡ numbers_claimed l n
  same_claimed = λ i. is.numbers i ++ (page_blocks (is.space i).settled ++ same_maps i)

  pub same_held : settled_of m n ≡ settled_of l n
  same_held =
      let count = same_length (blocks_at m n) (blocks_at l n) is.numbers in
      λ i. record { extents = stretches (same_settled i); maps = same_maps i; size = 1024 * count i + (is.space i).size }
