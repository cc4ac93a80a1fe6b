use Rattle.std.proofs.Common.{rules, ◌≡◌, ◌<◌, ◌≤◌, ◌++◌, ◌∷◌, [], ℕ, true, false, length, take, get_or, set, sym, ap, subst, ◌∙◌, inl, inr, arith}
use Rattle.std.proofs.lemmas.Grind.{common_steps}
use Rattle.vx_layout.specs.Places.{is_data}
use Rattle.vx_layout.specs.Maps.{MapBlock, IsMap, map_bytes, map_block_at}
use Rattle.vx_sound.specs.Said.{block_bytes, chain_said, claims_below}
use Rattle.vx_check.specs.Parts.{AreMarksOf}
use Rattle.vx_check.proofs.Marks.{marks_more, data_below}
use Rattle.vx_check.specs.Chains.{map_fits}
use Rattle.vx_check.proofs.MapChains.{bad_place, bad_form, good_map, fits_next}
use Rattle.vx_check.proofs.chain.check_map.Goals as goal
use Rattle.vx_check.proofs.chain.check_map.Goals.{then-not-is_data-via-then-not-is_data, then-not-is_data-via-else-not-is_data+then-marks-get}

pub bounds-marks-get : goal.bounds-marks-get
bounds-marks-get g c =
    let d : is_data c.args.volume.now c.args.b ≡ true = first_of (search rules, grind (arith, common_steps)) in
    let low = data_below c.args.volume.now c.args.b d in
    let e : c.get.result ≡ c.args.b = c.get.ensures in
    let room = c.requires.room in
    omega arith

pub returns-then-not-is_data-clause-finds : goal.returns-then-not-is_data-clause-finds
returns-then-not-is_data-clause-finds g c = λ strict image known.
    bad_place strict c.args.volume.now image c.args.ino c.args.k c.args.value.now c.args.b (c.requires.said image known) (c.requires.at image known)
    c.get-inode_sector.result (c.get-inode_sector.ensures ∙ c.inode_place.ensures.sector)
    (λ d new. elim c.then-not-is_data.branch [
      | then-not-is_data-via-then-not-is_data w ↦
          let bad : is_data c.args.volume.now c.args.b ≡ false = first_of (search rules, grind (arith, common_steps)) in
          absurd (cc)
      | then-not-is_data-via-else-not-is_data+then-marks-get w ↦
          let marked : get_or c.args.marks.now c.args.b false ≡ true = subst (λ (x : ℕ). get_or c.args.marks.now x false ≡ true) w.get.ensures w.if-marks-get.true in
          let bad : true ≡ false = sym marked ∙ (c.requires.marks image known) c.args.b ∙ new in
          absurd (cc)
    ])

pub bounds-marks-get-2 : goal.bounds-marks-get-2
bounds-marks-get-2 g c =
    let d : is_data c.args.volume.now c.args.b ≡ true = first_of (search rules, grind (arith, common_steps)) in
    let low = data_below c.args.volume.now c.args.b d in
    let e : c.get-2.result ≡ c.args.b = c.get-2.ensures in
    let room = c.requires.room in
    omega arith

pub block_sector-requires-clause-there : goal.block_sector-requires-clause-there
block_sector-requires-clause-there g c =
    let d : is_data c.args.volume.now c.args.b ≡ true = first_of (search rules, grind (arith, common_steps)) in
    data_below c.args.volume.now c.args.b d

pub returns-then-map_fits-clause-finds : goal.returns-then-map_fits-clause-finds
returns-then-map_fits-clause-finds g c = λ strict image known.
    let v = c.args.volume.now in
    let m : MapBlock = c.in-Ok-read_map.map in
    let block = c.requires.readable.block in
    let d : is_data v c.args.b ≡ true = first_of (search rules, grind (arith, common_steps)) in
    let free : get_or c.args.marks.now c.args.b false ≡ false = subst (λ (x : ℕ). get_or c.args.marks.now x false ≡ false) c.get.ensures c.if-marks-get.false in
    let new = sym ((c.requires.marks image (c.read_block.ensures.read.seen image known)) c.args.b) ∙ free in
    let is : IsMap v.block m = subst (λ (s : ℕ). IsMap s m) (sym block) c.in-Ok-read_map.ensures.found.0 in
    let spelled : block_bytes v image c.args.b ≡ map_bytes v.block m = sym (c.in-Ok.ensures.bytes image known) ∙ c.in-Ok-read_map.ensures.found.1 ∙ ap (λ (s : ℕ). map_bytes s m) (sym block) in
    let fits : map_fits v c.args.ino c.args.k c.args.value.now m ≡ true = sym (c.map_fits.ensures v block) ∙ c.if-map_fits.true in
    good_map strict v image c.args.ino c.args.k c.args.value.now c.args.b (c.requires.said image (c.read_block.ensures.read.seen image known)) (c.requires.at image (c.read_block.ensures.read.seen image known)) m d new is spelled (c.in-Ok.ensures.whole image known) fits

pub returns-then-map_fits-clause-map : goal.returns-then-map_fits-clause-map
returns-then-map_fits-clause-map g c = λ image known.
    let v = c.args.volume.now in
    let m : MapBlock = c.in-Ok-read_map.map in
    let block = c.requires.readable.block in
    let is : IsMap v.block m = subst (λ (s : ℕ). IsMap s m) (sym block) c.in-Ok-read_map.ensures.found.0 in
    let spelled : block_bytes v image c.args.b ≡ map_bytes v.block m = sym (c.in-Ok.ensures.bytes image known) ∙ c.in-Ok-read_map.ensures.found.1 ∙ ap (λ (s : ℕ). map_bytes s m) (sym block) in
    let fits : map_fits v c.args.ino c.args.k c.args.value.now m ≡ true = sym (c.map_fits.ensures v block) ∙ c.if-map_fits.true in
    let few : v.block ≤ 65536 = omega arith in
    ap map_block_at spelled ∙ c.map_spelling.ensures.again v.block m few is

pub returns-then-map_fits-clause-marks : goal.returns-then-map_fits-clause-marks
returns-then-map_fits-clause-marks g c = λ image known.
    let before = claims_below c.args.volume.now image c.args.ino ++ take c.args.k (chain_said c.args.volume.now image c.args.value.now) in
    let d : is_data c.args.volume.now c.args.b ≡ true = first_of (search rules, grind (arith, common_steps)) in
    let low = data_below c.args.volume.now c.args.b d in
    let room = c.requires.room in
    let inside : c.args.b < length c.args.marks.now = omega arith in
    subst (λ (x : ℕ). AreMarksOf (set c.args.marks.now x true) (before ++ c.args.b ∷ [])) (sym c.get-2.ensures) (marks_more c.args.marks.now before c.args.b inside (c.requires.marks image (c.read_block.ensures.read.seen image known)))

pub returns-else-map_fits-clause-finds : goal.returns-else-map_fits-clause-finds
returns-else-map_fits-clause-finds g c = λ strict image known.
    let v = c.args.volume.now in
    let m : MapBlock = c.in-Ok-read_map.map in
    let block = c.requires.readable.block in
    let d : is_data v c.args.b ≡ true = first_of (search rules, grind (arith, common_steps)) in
    let free : get_or c.args.marks.now c.args.b false ≡ false = subst (λ (x : ℕ). get_or c.args.marks.now x false ≡ false) c.get.ensures c.if-marks-get.false in
    let new = sym ((c.requires.marks image (c.read_block.ensures.read.seen image known)) c.args.b) ∙ free in
    let is : IsMap v.block m = subst (λ (s : ℕ). IsMap s m) (sym block) c.in-Ok-read_map.ensures.found.0 in
    let spelled : block_bytes v image c.args.b ≡ map_bytes v.block m = sym (c.in-Ok.ensures.bytes image known) ∙ c.in-Ok-read_map.ensures.found.1 ∙ ap (λ (s : ℕ). map_bytes s m) (sym block) in
    let misfits : map_fits v c.args.ino c.args.k c.args.value.now m ≡ false = sym (c.map_fits.ensures v block) ∙ c.if-map_fits.false in
    let few : v.block ≤ 65536 = omega arith in
    bad_form strict v image c.args.ino c.args.k c.args.value.now c.args.b (c.requires.said image (c.read_block.ensures.read.seen image known)) (c.requires.at image (c.read_block.ensures.read.seen image known)) c.get-sector.result (c.get-sector.ensures ∙ c.block_sector.ensures) d new
    (λ other is_other said fits.
    let same : m ≡ other = c.map_spelling.ensures.unique v.block m other few is is_other (sym spelled ∙ said) in
    let bad : true ≡ false = sym fits ∙ sym (ap (map_fits v c.args.ino c.args.k c.args.value.now) same) ∙ misfits in
    absurd (cc))

pub returns-in-Err-Bad-clause-finds : goal.returns-in-Err-Bad-clause-finds
returns-in-Err-Bad-clause-finds g c = λ strict image known.
    let v = c.args.volume.now in
    let block = c.requires.readable.block in
    let d : is_data v c.args.b ≡ true = first_of (search rules, grind (arith, common_steps)) in
    let free : get_or c.args.marks.now c.args.b false ≡ false = subst (λ (x : ℕ). get_or c.args.marks.now x false ≡ false) c.get.ensures c.if-marks-get.false in
    let new = sym ((c.requires.marks image (c.read_block.ensures.read.seen image known)) c.args.b) ∙ free in
    bad_form strict v image c.args.ino c.args.k c.args.value.now c.args.b (c.requires.said image (c.read_block.ensures.read.seen image known)) (c.requires.at image (c.read_block.ensures.read.seen image known)) c.get-sector.result (c.get-sector.ensures ∙ c.block_sector.ensures) d new
    (λ m is said fits.
    let low : IsMap 1024 m = subst (λ (s : ℕ). IsMap s m) block is in
    let text = c.in-Ok.ensures.bytes image known ∙ said ∙ ap (λ (s : ℕ). map_bytes s m) block in
    elim (c.read_map.ensures.only m low text) [ inl e ↦ absurd (cc) | inr e ↦ absurd (cc) ])

pub returns-then-map_fits-clause-next : goal.returns-then-map_fits-clause-next
returns-then-map_fits-clause-next g c =
    let v = c.args.volume.now in
    let m : MapBlock = c.in-Ok-read_map.map in
    let fits : map_fits v c.args.ino c.args.k c.args.value.now m ≡ true = sym (c.map_fits.ensures v c.requires.readable.block) ∙ c.if-map_fits.true in
    fits_next v c.args.ino c.args.k c.args.value.now m fits

pub read_block-requires-clause-there : goal.read_block-requires-clause-there
read_block-requires-clause-there g c =
    let d : is_data c.args.volume.now c.args.b ≡ true = first_of (search rules, grind (arith, common_steps)) in
    data_below c.args.volume.now c.args.b d
