-- Which inode claims a block: the one that has it.
use Rattle.std.proofs.Common.{◌≡◌, ◌≢◌, ℕ, zero, suc, ◌*◌, ◌<◌, ◌≤◌, Bool, true, false, cond, List, [], ◌∷◌, ◌++◌, map, take, drop, Option, Some, None, refl, sym, ap, subst, ◌∙◌, arith, inl, inr}
use Rattle.std.specs.Prelude.{◌||◌, ◌==◌, is_some, slice_get}
use Rattle.std.specs.FinMap as map_of
use Rattle.std.proofs.Math.Seq.{take-length}
use Rattle.std.proofs.lemmas.Bool.{cases_Bool, cases_eq, eq-eqb}
use Rattle.std.proofs.lemmas.List.{append_assoc, map-append}
use Rattle.vx_base.specs.declared.inode.Extent.{Extent}
use Rattle.vx_extents.specs.Extents.{Mapped, stretches}
use Rattle.vx_space.specs.Space.{Space, page_blocks, maps_for}
use Rattle.vx_space.specs.Laws.{IsPart}
use Rattle.vx_space.specs.Uses.{uses}
use Rattle.vx_model.specs.Tree.{Node, IsFile, IsDirectory}
use Rattle.vx_model.specs.Layout.{DirectoryBlock, Layout, Claim, Claimed, blocks_at, space_at, maps_at, block_numbers, owned, is_owned_below, is_owned, settled_at, settled_maps, chain_of, chain_at, names_claimed, page_claimed, claimed_at, claim_among, or_claim, claim_below, claim_of}
use Rattle.vx_model.specs.State.{State}
use Rattle.vx_model.specs.Images.{among}
use Rattle.vx_model.specs.LaidOut.{IsHeld, IsLaidOut, IsOnDevice, Owns}
use Rattle.vx_model.proofs.Uses.{one, uses_append, not_among, is_among}

abbrev pub claimed_blocks : List Claimed → List ℕ
claimed_blocks cs = map (λ (c : Claimed). c.block) cs

abbrev pub claim_by : ℕ → Claimed → Claim
claim_by n c = record { ino = n; form = c.form }

-- ---- the first claim of a block is found

found_by : (n : ℕ) (c d : Claimed) (cs : List Claimed) (t : Bool) → d.block == c.block ≡ t → one d.block c.block ≡ 0 → claim_among n d.block cs ≡ Some (claim_by n d)
    → cond t (Some (claim_by n c)) (claim_among n d.block cs) ≡ Some (claim_by n d)
found_by n c d cs true e none h = absurd (let x : 1 ≡ 0 = sym (ap (λ t. cond t 1 0) e) ∙ none in omega (arith, x))
found_by n c d cs false e none h = h

found : (n : ℕ) (pre post : List Claimed) (d : Claimed) → uses (claimed_blocks pre) d.block ≡ 0 → claim_among n d.block (pre ++ d ∷ post) ≡ Some (claim_by n d)
found n [] post d none = ap (λ t. cond t (Some (claim_by n d)) (claim_among n d.block post)) (eq-eqb d.block d.block refl)
found n (c ∷ pre) post d none =
    found_by n c d (pre ++ d ∷ post) (d.block == c.block) refl (omega (arith, none)) (found n pre post d (omega (arith, none)))

-- a block that stands in no claim is not claimed
missing_by : (n b : ℕ) (c : Claimed) (cs : List Claimed) (t : Bool) → (b == c.block) ≡ t → one b c.block ≡ 0 → claim_among n b cs ≡ None → cond t (Some (claim_by n c)) (claim_among n b cs) ≡ None
missing_by n b c cs true e none h = absurd (let x : 1 ≡ 0 = sym (ap (λ t. cond t 1 0) e) ∙ none in omega (arith, x))
missing_by n b c cs false e none h = h

pub missing : (n b : ℕ) (cs : List Claimed) → uses (claimed_blocks cs) b ≡ 0 → claim_among n b cs ≡ None
missing n b [] none = refl
missing n b (c ∷ cs) none = missing_by n b c cs (b == c.block) refl (omega (arith, none)) (missing n b cs (omega (arith, none)))

some_by : (n b : ℕ) (c : Claimed) (cs : List Claimed) (t : Bool) → is_some (claim_among n b cs) ≡ among (claimed_blocks cs) b
    → is_some (cond t (Some (claim_by n c)) (claim_among n b cs)) ≡ (t || among (claimed_blocks cs) b)
some_by n b c cs true h = refl
some_by n b c cs false h = h

-- a block is claimed where it stands among the claims
pub claimed : (n b : ℕ) (cs : List Claimed) → is_some (claim_among n b cs) ≡ among (claimed_blocks cs) b
claimed n b [] = refl
claimed n b (c ∷ cs) = some_by n b c cs (b == c.block) (claimed n b cs)

-- ---- what is claimed is owned

pub chain_blocks : (n : ℕ) (es : List Extent) (ms : List ℕ) → claimed_blocks (chain_of n es ms) ≡ ms
chain_blocks n es [] = refl
chain_blocks n es (b ∷ bs) = ap (λ (xs : List ℕ). b ∷ xs) (chain_blocks n (drop 63 es) bs)

pub name_blocks : (ds : List DirectoryBlock) → claimed_blocks (map names_claimed ds) ≡ block_numbers ds
name_blocks [] = refl
name_blocks (d ∷ ds) = ap (λ (xs : List ℕ). d.block ∷ xs) (name_blocks ds)

pub file_blocks : (ms : List Mapped) → claimed_blocks (map page_claimed ms) ≡ page_blocks ms
file_blocks [] = refl
file_blocks (m ∷ ms) = ap (λ (xs : List ℕ). m.block ∷ xs) (file_blocks ms)

-- the blocks that are claimed, in order
pub claims_split : (l : Layout) (n : ℕ) → claimed_blocks (claimed_at l n) ≡ block_numbers (blocks_at l n) ++ (page_blocks (space_at l n).settled ++ settled_maps l n)
claims_split l n =
    map-append (λ (c : Claimed). c.block) (map names_claimed (blocks_at l n)) (map page_claimed (space_at l n).settled ++ chain_at l n)
    ∙ (λ i. name_blocks (blocks_at l n) i ++ map-append (λ (c : Claimed). c.block) (map page_claimed (space_at l n).settled) (chain_at l n) i)
    ∙ (λ i. block_numbers (blocks_at l n) ++ (file_blocks (space_at l n).settled i ++ chain_blocks n (drop 6 (stretches (settled_at l n))) (settled_maps l n) i))

-- a list by one of its places
pub parted : {X : Type 0} (xs : List X) (k : ℕ) (x : X) → slice_get xs k ≡ Some x → (pre : List X) × (post : List X) × (xs ≡ pre ++ x ∷ post)
parted [] k x at = absurd cc
parted (y ∷ ys) zero x at = let e : y ≡ x = cc in ([], ys, ap (λ z. z ∷ ys) e)
parted (y ∷ ys) (suc k) x at = let rest = parted ys k x at in (y ∷ rest.0, rest.1, ap (λ zs. y ∷ zs) rest.2)

-- ---- what the device says of an inode is some of what it has

-- the blocks of the settled pages are those of present ones
pub part_uses : (xs ys : List Mapped) → IsPart xs ys → (b : ℕ) → uses (page_blocks xs) b ≤ uses (page_blocks ys) b
part_uses [] ys part b = omega arith
part_uses (m ∷ ms) [] part b = absurd part
part_uses (m ∷ ms) (n ∷ ns) (inl both) b =
    let rest = part_uses ms ns both.1 b in
    let same : one b m.block ≡ one b n.block = ap (one b) both.0.block in omega (arith, rest, same)
part_uses (m ∷ ms) (n ∷ ns) (inr later) b = let rest = part_uses (m ∷ ms) ns later b in omega (arith, rest)

take_uses : (k : ℕ) (xs : List ℕ) (b : ℕ) → uses (take k xs) b ≤ uses xs b
take_uses zero xs b = omega arith
take_uses (suc k) [] b = omega arith
take_uses (suc k) (x ∷ xs) b = let rest = take_uses k xs b in omega (arith, rest)

part_by : (l : Layout) (n : ℕ) (o : Option Node) → IsHeld l n o → IsPart (space_at l n).settled (space_at l n).present
part_by l n None h = subst (λ (x : Space). IsPart x.settled x.present) (sym h.space) tt
part_by l n (Some (IsFile f)) h = h.0.space.part
part_by l n (Some (IsDirectory d)) h = subst (λ (x : Space). IsPart x.settled x.present) (sym h.0.space) tt

-- the settled pages are among the present ones
pub settled_part : (s : State) → IsLaidOut s → (n : ℕ) → IsPart (space_at s.layout n).settled (space_at s.layout n).present
settled_part s is n = part_by s.layout n (map_of.get s.tree.nodes n) (is.nodes n)

pub claims_owned : (s : State) → IsLaidOut s → (n b : ℕ) → uses (claimed_blocks (claimed_at s.layout n)) b ≤ uses (owned s.layout n) b
claims_owned s is n b =
    let names : List ℕ = block_numbers (blocks_at s.layout n) in
    let x : Space = space_at s.layout n in
    let ms : List ℕ = maps_at s.layout n in
    let said : uses (claimed_blocks (claimed_at s.layout n)) b ≡ uses (names ++ (page_blocks x.settled ++ settled_maps s.layout n)) b = ap (λ (xs : List ℕ). uses xs b) (claims_split s.layout n) in
    let first = uses_append names (page_blocks x.settled ++ settled_maps s.layout n) b in
    let second = uses_append (page_blocks x.settled) (settled_maps s.layout n) b in
    let has = uses_append names (page_blocks x.present ++ ms) b in
    let parts = uses_append (page_blocks x.present) ms b in
    let pages = part_uses x.settled x.present (settled_part s is n) b in
    let maps = take_uses (maps_for (settled_at s.layout n)) ms b in
    omega (arith, said, first, second, has, parts, pages, maps)

-- ---- the inode that has a block claims it

or_none : (o : Option Claim) → or_claim o None ≡ o
or_none None = refl
or_none (Some c) = refl

module _ (l : Layout) where
  none_below : (b n : ℕ) → ((k : ℕ) → k ≢ n → claim_among k b (claimed_at l k) ≡ None) → (m : ℕ) → m ≤ n → claim_below l b m ≡ None
  unfolding claim_below
  none_below b n none zero le = refl
  none_below b n none (suc m) le = ap (λ o. or_claim o (claim_below l b m)) (none m (λ e. absurd (omega (arith, e, le)))) ∙ none_below b n none m (omega (arith, le))

  pub only_below : (b n : ℕ) → ((k : ℕ) → k ≢ n → claim_among k b (claimed_at l k) ≡ None) → (m : ℕ) → n < m → claim_below l b m ≡ claim_among n b (claimed_at l n)
  unfolding claim_below
  only_below b n none zero lt = absurd (omega (arith, lt))
  only_below b n none (suc m) lt = elim (cases_eq m n) [
    | inl e ↦
        ap (or_claim (claim_among m b (claimed_at l m))) (none_below b n none m (omega (arith, e))) ∙ or_none (claim_among m b (claimed_at l m))
        ∙ ap (λ (k : ℕ). claim_among k b (claimed_at l k)) e
    | inr ne ↦ ap (λ o. or_claim o (claim_below l b m)) (none m ne) ∙ only_below b n none m (omega (arith, lt, ne))
  ]

module _ (s : State) (is : IsLaidOut s) where
  abbrev l : Layout
  l = s.layout

  claimed_uses : (n b : ℕ) → uses (claimed_blocks (claimed_at l n)) b ≤ uses (owned l n) b
  claimed_uses = claims_owned s is

  -- where nobody has the block twice, a claim is found
  pub claim_here : (n : ℕ) (pre post : List Claimed) (d : Claimed) → claimed_at l n ≡ pre ++ d ∷ post → claim_of l d.block ≡ Some (claim_by n d)
  claim_here n pre post d e =
      let b : ℕ = d.block in
      let split : claimed_blocks (claimed_at l n) ≡ claimed_blocks pre ++ b ∷ claimed_blocks post = ap claimed_blocks e ∙ map-append (λ (c : Claimed). c.block) pre (d ∷ post) in
      let all : uses (claimed_blocks (claimed_at l n)) b ≡ uses (claimed_blocks pre ++ b ∷ claimed_blocks post) b = ap (λ (xs : List ℕ). uses xs b) split in
      let parted = uses_append (claimed_blocks pre) (b ∷ claimed_blocks post) b in
      let self : one b b ≡ 1 = ap (λ t. cond t 1 0) (eq-eqb b b refl) in
      let low = claimed_uses n b in
      let once = is.use_of_blocks.apart n b in
      let none : uses (claimed_blocks pre) b ≡ 0 = omega (arith, all, parted, self, low, once) in
      let owns : Owns l n b = is_among (owned l n) b (omega (arith, all, parted, self, low)) in
      only_below l b n (λ k ne. missing k b (claimed_at l k) (not_claimed k ne owns)) (128 * l.units) (is.use_of_blocks.low n b owns)
      ∙ ap (claim_among n b) e ∙ found n pre post d none
    where
      not_claimed : (k : ℕ) → k ≢ n → Owns l n d.block → uses (claimed_blocks (claimed_at l k)) d.block ≡ 0
      not_claimed k ne owns = elim (cases_Bool (among (owned l k) d.block)) [
        | inl other ↦ absurd (ne (is.use_of_blocks.once k n d.block other owns))
        | inr gone ↦ (let zero_owned = not_among (owned l k) d.block gone in let low = claimed_uses k d.block in omega (arith, zero_owned, low))
      ]

  -- ---- by places

  pub claim_law : (n k : ℕ) (c : Claimed) → slice_get (claimed_at l n) k ≡ Some c → claim_of l c.block ≡ Some (claim_by n c)
  claim_law n k c at = let parts = parted (claimed_at l n) k c at in claim_here n parts.0 parts.1 c parts.2

  pub block_law : (n i : ℕ) (d : DirectoryBlock) → slice_get (blocks_at l n) i ≡ Some d → claim_of l d.block ≡ Some (claim_by n (names_claimed d))
  block_law n i d at =
      let parts = parted (blocks_at l n) i d at in
      let rest : List Claimed = map page_claimed (space_at l n).settled ++ chain_at l n in
      claim_here n (map names_claimed parts.0) (map names_claimed parts.1 ++ rest) (names_claimed d)
      (ap (λ (ds : List DirectoryBlock). map names_claimed ds ++ rest) parts.2 ∙ ap (λ (cs : List Claimed). cs ++ rest) (map-append names_claimed parts.0 (d ∷ parts.1))
      ∙ append_assoc (map names_claimed parts.0) (names_claimed d ∷ map names_claimed parts.1) rest)

  pub map_law : (n k : ℕ) (c : Claimed) → slice_get (chain_at l n) k ≡ Some c → claim_of l c.block ≡ Some (claim_by n c)
  map_law n k c at =
      let parts = parted (chain_at l n) k c at in
      let names : List Claimed = map names_claimed (blocks_at l n) in
      let pages : List Claimed = map page_claimed (space_at l n).settled in
      claim_here n (names ++ (pages ++ parts.0)) parts.1 c
      (ap (λ (cs : List Claimed). names ++ (pages ++ cs)) parts.2 ∙ ap (λ (cs : List Claimed). names ++ cs) (sym (append_assoc pages parts.0 (c ∷ parts.1)))
      ∙ sym (append_assoc names (pages ++ parts.0) (c ∷ parts.1)))

some_or : (a c : Option Claim) → is_some (or_claim a c) ≡ (is_some a || is_some c)
some_or None c = refl
some_or (Some x) c = refl

-- where nothing is held, all blocks are claimed
pub claims_whole : (l : Layout) (n : ℕ) → IsOnDevice l n → claimed_blocks (claimed_at l n) ≡ owned l n
claims_whole l n is =
    let all : settled_maps l n ≡ maps_at l n = ap (λ (k : ℕ). take k (maps_at l n)) is.maps ∙ take-length (maps_at l n) in
    claims_split l n ∙ (λ i. block_numbers (blocks_at l n) ++ (is.pages i ++ all i))

module _ (l : Layout) (is : (n : ℕ) → IsOnDevice l n) where
  owned_below : (b n : ℕ) → is_some (claim_below l b n) ≡ is_owned_below l b n
  unfolding claim_below is_owned_below
  owned_below b zero = refl
  owned_below b (suc n) =
      some_or (claim_among n b (claimed_at l n)) (claim_below l b n)
      ∙ (λ i. (claimed n b (claimed_at l n) ∙ ap (λ (bs : List ℕ). among bs b) (claims_whole l n (is n))) i || owned_below b n i)

  pub owned_law : (b : ℕ) → is_some (claim_of l b) ≡ is_owned l b
  owned_law b = owned_below b (128 * l.units)
