-- A new image reads as the empty root.
use Rattle.std.proofs.Common.{◌≡◌, ◌≢◌, ℕ, zero, suc, ◌+◌, ◌-◌, ◌*◌, ◌/◌, ◌%◌, ◌<◌, ◌≤◌, Bool, true, false, cond, List, [], ◌++◌, replicate, Option, None, Some, refl, sym, ap, subst, ◌∙◌, arith, inl, inr, lit<, lit≤}
use Rattle.std.specs.Prelude.{◌||◌, ◌&&◌, ◌==◌, nat_lt, nat_le, is_some, IfSome}
use Rattle.std.specs.Option.{option_map, option_and_then}
use Rattle.std.specs.Ordering.{nat_cmp}
use Rattle.std.specs.FinMap as map
use Rattle.std.proofs.lemmas.Bool.{cases_eq, ne_eqb, eqb-false, ltb-true, ltb-false, leb-false}
use Rattle.std.proofs.lemmas.Nat.{div-add-mod'}
use Rattle.vx_base.proofs.Maps.{at_key, at_other}
use Rattle.vx_layout.specs.Places.{Volume, Place, outside, blank, bits, slots, part, per_block, unit_block, sectors_of, bitmap_sector, pair_sector, place_of, IsPlaceOf, sector_part}
use Rattle.vx_layout.specs.Supers.{IsSuper, volume_of}
use Rattle.vx_layout.specs.declared.superblock.Super.{Super}
use Rattle.vx_layout.specs.Bits.{bits_bytes}
use Rattle.vx_layout.specs.Inodes.{slot_bytes}
use Rattle.vx_layout.proofs.Standing.{place_is}
use Rattle.vx_model.specs.Legal.{IfThere}
use Rattle.vx_model.specs.Tree.{Node, IsFile, File, Opened, handle_cmp, new_directory, empty_root}
use Rattle.vx_model.specs.Layout.{Claim, volume, claim_below, claim_of}
use Rattle.vx_model.specs.State.{State, fresh_of}
use Rattle.vx_sound.specs.Reading.{Form, form_bytes, used_in}
use Rattle.vx_model.specs.Images.{Parsed, content, Stands}
use Rattle.vx_model.specs.Reads.{ImageReadsAs}
use Rattle.vx_model.specs.Contents.{Held, inode_for, parsed_of, fresh_root, unit_bytes, IsFormatted}
use Rattle.vx_model.specs.LaidOut.{IsHeld, IsDirectoryNode, IsFileNode, IsLaidOut, IsPlain}

module _ (w : Super) (limit sectors : ℕ) where
  abbrev new : State
  new = fresh_of w limit sectors

  no_node : (n : ℕ) → n ≢ 2 → map.get new.tree.nodes n ≡ None
  no_node n ne = at_other map.empty 2 (new_directory 493) n ne ∙ map.get-empty nat_cmp n

  root_node : map.get new.tree.nodes 2 ≡ Some (new_directory 493)
  root_node = at_key map.empty 2 (new_directory 493)

  none_below : (b n : ℕ) → claim_below new.layout b n ≡ None
  unfolding claim_below
  none_below b zero = refl
  none_below b (suc n) = none_below b n

  pub fresh_laid : IsSuper w → limit ≤ 64 → sectors_of (volume_of w) ≤ sectors → IsLaidOut new
  fresh_laid is one room = record {
    nodes = λ n. elim (cases_eq n 2) [
      | inl e ↦ subst (λ (k : ℕ). IsHeld new.layout k (map.get new.tree.nodes k)) (sym e)
          (subst (IsHeld new.layout 2) (sym root_node) (
            record { mode = lit≤ tt; entries = refl; spelled = tt; few = omega arith; maps = refl; space = refl },
            lit≤ tt,
            omega (arith, is.units_low),
          ))
      | inr ne ↦ subst (IsHeld new.layout n) (sym (no_node n ne)) (record { none = refl; space = refl })
    ];
    use_of_blocks = record {
      once = λ n m b has other. absurd cc;
      apart = λ n b. omega arith;
      data_blocks = λ n b has. absurd cc;
      not_pending = λ n b has. refl;
      low = λ n b has. absurd cc;
    };
    has_root = subst (λ (o : Option Node). IfThere o IsDirectoryNode) (sym root_node) tt;
    handles = λ key. subst (λ (x : Option Opened). IfSome x (λ (o : Opened). IfThere (map.get new.tree.nodes o.ino) IsFileNode)) (sym (map.get-empty handle_cmp key)) tt;
    tunables = record { some = lit≤ tt; few = lit≤ tt };
    units = is.units_low;
    units_limit = is.units_high;
    log_blocks = is.log_high;
    limit = one;
    room = room;
  }

  no_file : (n : ℕ) (o : Option Node) (f : File) → (n ≡ 2 → o ≡ Some (new_directory 493)) → (n ≢ 2 → o ≡ None) → o ≡ Some (IsFile f) → ⊥
  no_file n o f here other is = elim (cases_eq n 2) [
    | inl e ↦ absurd (let no : ◌≡◌ {A = Option Node} (Some (new_directory 493)) (Some (IsFile f)) = sym (here e) ∙ is in cc)
    | inr ne ↦ absurd (let no : ◌≡◌ {A = Option Node} None (Some (IsFile f)) = sym (other ne) ∙ is in cc)
  ]

  -- no file is there
  pub fresh_plain : IsPlain new
  fresh_plain = record {
    files = λ n f there. absurd (no_file n (map.get new.tree.nodes n) f (λ e. ap (map.get new.tree.nodes) e ∙ root_node) (no_node n) there);
    rest = refl;
  }

-- ---- the spare sector of a bitmap's block

-- a sector behind the bitmap within the first block of a unit
record IsSpare (v : Volume) (s : ℕ) : Type 0 where
  from : v.first * per_block v ≤ s
  unit : (s - v.first * per_block v) / (4096 * per_block v) < v.units
  past : (s - v.first * per_block v) % (4096 * per_block v) ≢ 0
  within : (s - v.first * per_block v) % (4096 * per_block v) < per_block v

choice : (Q : Place → Type 0) (p q : Place) (b : Bool) → (b ≡ true → Q p) → (b ≡ false → Q q) → Q (cond b p q)
choice Q p q true this other = this refl
choice Q p q false this other = other refl

spare : (v : Volume) (s : ℕ) → place_of v s ≡ blank → IsSpare v s
unfolding place_of
spare v s =
    let Q : Place → Type 0 = λ p. p ≡ blank → IsSpare v s in
    choice Q _ _ (nat_lt s (v.first * per_block v)) (λ a h. absurd cc)
    (λ a. choice Q _ _ (nat_le v.units ((s - v.first * per_block v) / (4096 * per_block v))) (λ b h. absurd cc)
    (λ b. choice Q _ _ ((s - v.first * per_block v) % (4096 * per_block v) == 0) (λ c h. absurd cc)
    (λ c. choice Q _ _ (nat_lt ((s - v.first * per_block v) % (4096 * per_block v)) (per_block v))
    (λ d h. record { from = ltb-false _ _ a; unit = leb-false _ _ b; past = eqb-false _ _ c; within = ltb-true _ _ d })
    (λ d. choice Q _ _ (nat_lt ((s - v.first * per_block v) % (4096 * per_block v)) (per_block v + 64)) (λ e h. absurd cc) (λ e h. absurd cc)))))

-- ---- the sectors

abbrev zeros : ℕ → List ℕ
zeros n = replicate n 0

two_halves : zeros 256 ++ zeros 256 ≡ zeros 512
two_halves = refl

or_none : (a c : Bool) → c ≡ false → (a || c) ≡ a
or_none true c h = refl
or_none false c h = h

-- a sector of a new unit that is neither the bitmap nor the root's
zeros_there : (u i : ℕ) → i ≢ 0 → (u == 0 && i == 3) ≡ false → unit_bytes 2 u i ≡ zeros 512
zeros_there u i ne other = let first : (i == 0) ≡ false = ne_eqb i 0 ne in rw (first, other) refl

other_pair : (u i : ℕ) → (u ≡ 0 → i ≡ 3 → ⊥) → (u == 0 && i == 3) ≡ false
other_pair u i ne = elim (cases_eq u 0) [
  | inl zero_ ↦ let third : (i == 3) ≡ false = ne_eqb i 3 (ne zero_) in rw (zero_, third) refl
  | inr more ↦ let later : (u == 0) ≡ false = ne_eqb u 0 more in rw later refl
]

module _ (w : Super) (limit sectors : ℕ) (is_super : IsSuper w) (image : ℕ → List ℕ) (is : IsFormatted (volume_of w) image) where
  abbrev v : Volume
  v = volume_of w

  abbrev first : ℕ
  first = 2 + w.log_blocks

  abbrev p : Parsed
  p = parsed_of (fresh_of w limit sectors)

  -- what an inode without blocks takes up
  abbrev nothing : Held
  nothing = record { extents = []; maps = []; size = 0 }

  unclaimed : (b : ℕ) → claim_of (fresh_of w limit sectors).layout b ≡ None
  unclaimed b = none_below w limit sectors b (128 * w.units)

  free : (n : ℕ) → n ≢ 2 → p.inodes n ≡ None
  free n ne = ap (option_map (inode_for nothing)) (no_node w limit sectors n ne)

  root_inode : p.inodes 2 ≡ Some fresh_root
  root_inode = ap (option_map (inode_for nothing)) (root_node w limit sectors)

  abbrev Holds : ℕ → Place → Type 0
  Holds s q = IfSome (content v p q) (λ bytes. image s ≡ bytes)

  bitmap_bits : (u j : ℕ) → nat_lt j 33 ≡ used_in v p u j
  bitmap_bits u j = sym (or_none (nat_lt j 33) _ (ap (λ (o : Option Claim). is_some (option_map (λ (c : Claim). c.ino) o)) (unclaimed (unit_block v u + j))))

  bitmap_holds : (s u : ℕ) → u < w.units → s ≡ bitmap_sector v u → image s ≡ bits_bytes (used_in v p u)
  bitmap_holds s u lt at =
      let start : s ≡ bitmap_sector v u + 0 = omega (arith, at) in
      ap image start ∙ is u 0 lt (lit< tt) ∙ (λ i. bits_bytes (λ j. bitmap_bits u j i))

  root_holds : (s : ℕ) → s ≡ pair_sector v 1 → image s ≡ slot_bytes (p.inodes 2) ++ slot_bytes (p.inodes 3)
  root_holds s at =
      let start : s ≡ bitmap_sector v 0 + 3 = omega (arith, at) in
      ap image start ∙ is 0 3 is_super.units_low (lit< tt) ∙ (λ i. slot_bytes (sym root_inode i) ++ slot_bytes (sym (free 3 (λ e. absurd (omega arith))) i))

  free_holds : (s k : ℕ) → k < 64 * w.units → k ≢ 1 → s ≡ pair_sector v k → image s ≡ slot_bytes (p.inodes (2 * k)) ++ slot_bytes (p.inodes (2 * k + 1))
  free_holds s k lt ne at =
      let whole = div-add-mod' k 64 in
      let start : s ≡ bitmap_sector v (k / 64) + (2 + k % 64) = omega (arith, at) in
      let none = zeros_there (k / 64) (2 + k % 64) (λ e. omega arith) (other_pair (k / 64) (2 + k % 64) (λ a b. ne (omega (arith, a, b, whole)))) in
      ap image start ∙ is (k / 64) (2 + k % 64) (omega arith) (omega arith) ∙ none ∙ sym two_halves
      ∙ (λ i. slot_bytes (sym (free (2 * k) (λ e. omega arith)) i) ++ slot_bytes (sym (free (2 * k + 1) (λ e. omega arith)) i))

  blank_holds : (s : ℕ) → IsSpare v s → image s ≡ zeros 512
  blank_holds s there =
      let from = there.from in
      let unit : (s - first * 2) / 8192 < w.units = there.unit in
      let past = there.past in
      let within = there.within in
      let whole = div-add-mod' (s - first * 2) 8192 in
      let only : s ≡ bitmap_sector v ((s - first * 2) / 8192) + 1 = omega arith in
      ap image only ∙ is ((s - first * 2) / 8192) 1 unit (lit< tt) ∙ zeros_there ((s - first * 2) / 8192) 1 (λ e. absurd cc) (other_pair ((s - first * 2) / 8192) 1 (λ a b. absurd cc))

  holds : (s : ℕ) (q : Place) → (q ≡ blank → IsSpare v s) → IsPlaceOf v s q → Holds s q
  holds s outside there at = tt
  holds s blank there at = blank_holds s (there refl)
  holds s (bits u) there at = bitmap_holds s u at.0 at.1
  holds s (slots k) there at =
      elim (cases_eq k 1) [
        | inl e ↦ subst (λ (j : ℕ). s ≡ pair_sector v j → Holds s (slots j)) (sym e) (root_holds s) at.1
        | inr ne ↦ free_holds s k at.0 ne at.1
      ]
  holds s (part b j) there at =
      subst (λ (o : Option Claim). IfSome (option_map (λ (x : Form). sector_part j (form_bytes 1024 x)) (option_and_then (λ (c : Claim). c.form) o)) (λ bytes. image s ≡ bytes)) (sym (unclaimed b)) tt

  pub fresh_stands : Stands v p image
  fresh_stands s = holds s (place_of v s) (spare v s) (place_is v s (record { some = lit< tt; even = refl }))

-- what an image that says a state without bytes reads as
abbrev pub StateReads : Type 0
StateReads = (s : State) (image : ℕ → List ℕ) → IsLaidOut s → IsPlain s → Stands (volume s.layout) (parsed_of s) image → ImageReadsAs (volume s.layout) image s.tree

pub fresh_reads : StateReads → (w : Super) (image : ℕ → List ℕ) → IsSuper w → IsFormatted (volume_of w) image → ImageReadsAs (volume_of w) image empty_root
fresh_reads reads w image is formatted =
    let sectors : ℕ = sectors_of (volume_of w) in
    reads (fresh_of w 1 sectors) image (fresh_laid w 1 sectors is (lit≤ tt) (omega arith)) (fresh_plain w 1 sectors) (fresh_stands w 1 sectors is image formatted)
