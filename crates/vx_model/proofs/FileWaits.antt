-- What held metadata does so still, or waits.
use Rattle.std.proofs.Common.{◌≡◌, ◌⊎◌, ℕ, Bool, true, false, cond, List, ◌++◌, length, Option, Some, Ok, Err, inl, inr, refl, sym, ap, ◌∙◌, subst}
use Rattle.std.specs.Prelude.{◌==◌, nat_le, nat_lt, min}
use Rattle.std.specs.FinMap as map
use Rattle.std.proofs.lemmas.Bool.{cases_eq}
use Rattle.std.proofs.lemmas.List.{take-append-drop}
use Rattle.vx_base.specs.declared.call.Call.{Call}
use Rattle.vx_base.specs.declared.call.Call.TheVariants as call
use Rattle.vx_space.specs.Space.{Space, maps_needed}
use Rattle.vx_space.specs.Placing.{is_set}
use Rattle.vx_space.specs.Leaving.{reserved_from, space_but, cut_space, waiting_then, kept_maps, surplus_maps}
use Rattle.vx_model.specs.Outcome.{Maybe}
use Rattle.vx_model.specs.Tree.{File, IsFile, Tree}
use Rattle.vx_model.specs.Layout.{Layout, blocks_at, space_at, maps_at, block_numbers, pended}
use Rattle.vx_model.specs.State.{State, Done, settled}
use Rattle.vx_model.specs.Walks.{file_at}
use Rattle.vx_model.specs.Edits.{set_node, drop_node}
use Rattle.vx_model.specs.Images.{among}
use Rattle.vx_model.specs.LaidOut.{named}
use Rattle.vx_model.specs.Waiting.{IsNamed, Waits}
use Rattle.vx_model.proofs.GivenUp.{drop_waits, waits_next, waits_same}
use Rattle.vx_model.proofs.Numbers.{either, in_left, in_right}
use Rattle.vx_model.specs.Handles.{key_of, is_open}
use Rattle.vx_model.specs.Opened.{with_handles, pages_of, unreserved, closed_by, open_path, close}
use Rattle.vx_model.specs.Bytes.{payload_bytes, resized, first_page, page_count, write_filling, file_request, file_filling, read_file, read, written, write_file, write, cut, truncate_file, truncate, fsync}
use Rattle.vx_model.specs.Settling.{space_settled, settle_file, settle}
use Rattle.vx_model.proofs.FileStep.{file_step}
use Rattle.vx_model.proofs.Changing.{changed, maps_here, elsewhere}
use Rattle.vx_model.proofs.Filling.{fill_longer}
use Rattle.vx_model.proofs.FileSuccesses.{answered, opens, goes_on, writes, truncates, fsyncs, ok_is}

-- ---- one inode has other map blocks

module _ (place : ℕ) (s : State) (tree : Tree) (at : ℕ) (x : Space) (maps : List ℕ) (pending : ℕ → Option ℕ)
    (waits : (b : ℕ) → (pending b ≡ s.layout.pending b) ⊎ (pending b ≡ Some place)) (kept : (b : ℕ) → among (maps_at s.layout at) b ≡ true → (among maps b ≡ true) ⊎ (pending b ≡ Some place)) where
  abbrev now : Layout
  now = changed s.layout at x maps pending

  abbrev new : State
  new = record { tree = tree; layout = now }

  -- of that inode
  named_here : (b : ℕ) → among (named s.layout at) b ≡ true → IsNamed new b ⊎ (pending b ≡ Some place)
  named_here b h = elim (either (block_numbers (blocks_at s.layout at)) (maps_at s.layout at) b h) [
    | inl there ↦ inl (at, in_left (block_numbers (blocks_at s.layout at)) (maps_at now at) b there)
    | inr there ↦ elim (kept b there) [
      | inl stays ↦ inl (at, in_right (block_numbers (blocks_at s.layout at)) (maps_at now at) b (ap (λ (ms : List ℕ). among ms b) (maps_here s.layout at x maps pending) ∙ stays))
      | inr goes ↦ inr goes
    ]
  ]

  pub changed_waits : Waits place s new
  changed_waits = record {
    same_volume = refl;
    same_device = refl;
    named = λ b h. elim (cases_eq h.0 at) [
      | inl e ↦ named_here b (subst (λ (n : ℕ). among (named s.layout n) b ≡ true) e h.1)
      | inr ne ↦ inl (h.0, ap (λ (ms : List ℕ). among (block_numbers (blocks_at s.layout h.0) ++ ms) b) (elsewhere s.layout at x maps pending h.0 ne).maps ∙ h.1)
    ];
    pending = waits;
  }

-- blocks wait for this event, or as they did
pended_by : (place : ℕ) (old : Option ℕ) (t : Bool) → (cond t (Some place) old ≡ old) ⊎ (cond t (Some place) old ≡ Some place)
pended_by place old true = inr refl
pended_by place old false = inl refl

pended_waits : (place : ℕ) (gone : List ℕ) (old : ℕ → Option ℕ) (b : ℕ) → (pended place gone old b ≡ old b) ⊎ (pended place gone old b ≡ Some place)
pended_waits place gone old b = pended_by place (old b) (among gone b)

-- a file gives pages up, and no map block
gone_waits : (place : ℕ) (s : State) (tree : Tree) (at : ℕ) (x : Space) (gone : List ℕ) → Waits place s (record { tree = tree; layout = changed s.layout at x (maps_at s.layout at) (pended place gone s.layout.pending) })
gone_waits place s tree at x gone = changed_waits place s tree at x (maps_at s.layout at) (pended place gone s.layout.pending) (pended_waits place gone s.layout.pending) (λ b h. inl h)

-- ---- each call

filled_waits : (place : ℕ) (s : State) (at offset : ℕ) (new : List ℕ) (f : File) (done : Done) → write_file s at offset new f ≡ Ok done → Waits place s done.state
unfolding write_filling
filled_waits place s at offset new f done h =
    let w = writes s at offset new f done h in
    let x : Space = space_at s.layout at in
    let from : ℕ = first_page offset in
    let n : ℕ = page_count offset (length new) in
    let more = fill_longer (file_request s.layout s.tree.tunables.initial_extent_size at f from n) x from n (file_filling s.layout at) w.placed w.place_is in
    subst (λ (d : Done). Waits place s d.state) (sym w.is)
    (changed_waits place s (written s at offset new f w.placed).state.tree at (record x { present = w.placed.pages }) w.placed.maps s.layout.pending (λ b. inl refl)
    (λ b there. inl (ap (λ (ms : List ℕ). among ms b) more.maps ∙ in_left (maps_at s.layout at) more.more b there)))

module _ (place : ℕ) (s : State) (at : ℕ) (f : File) where
  sized_waits : (size : ℕ) (t : Bool) → Waits place s (cond t (cut s place at size f) (set_node s at (IsFile (record f { bytes = resized size f.bytes }))))
  sized_waits size true = gone_waits place s (cut s place at size f).tree at (cut_space (pages_of size) size (space_at s.layout at)) (waiting_then (nat_le (pages_of size)) (space_at s.layout at))
  sized_waits size false = waits_same place s (set_node s at (IsFile (record f { bytes = resized size f.bytes }))) refl

  unreserved_waits : (reserve from : ℕ) → Waits place s (unreserved s place at f reserve from)
  unreserved_waits reserve from =
      let x : Space = space_at s.layout at in
      gone_waits place s (unreserved s place at f reserve from).tree at (space_but (reserved_from from x.present) x) (waiting_then (reserved_from from x.present) x)

  last_waits : (t u v w : Bool)
      → Waits place s (cond t s (cond u (drop_node s place at) (cond v (unreserved s place at f 0 0) (cond w (unreserved s place at f (min f.attrs.reserve (pages_of (length f.bytes))) (pages_of (length f.bytes))) s))))
  last_waits true u v w = waits_same place s s refl
  last_waits false true v w = drop_waits place s at
  last_waits false false true w = unreserved_waits 0 0
  last_waits false false false true = unreserved_waits (min f.attrs.reserve (pages_of (length f.bytes))) (pages_of (length f.bytes))
  last_waits false false false false = waits_same place s s refl

  settle_waits : Waits place s (settle_file s place at (Ok f))
  settle_waits =
      let x : Space = space_settled s.layout at f in
      let maps : List ℕ = maps_at s.layout at in
      let gone : List ℕ = surplus_maps x maps in
      changed_waits place s s.tree at x (kept_maps x maps) (pended place gone s.layout.pending) (pended_waits place gone s.layout.pending)
      (λ b there. elim (either (kept_maps x maps) gone b (ap (λ (ms : List ℕ). among ms b) (take-append-drop (maps_needed x) maps) ∙ there)) [
        | inl stays ↦ inl stays
        | inr goes ↦ inr (ap (λ t. cond t (Some place) (s.layout.pending b)) goes)
      ])

answered_waits : (place : ℕ) (s : State) (m : Maybe Done) (done : Done) → ((d : Done) → m ≡ Ok d → Waits place s d.state) → Some (settled s m) ≡ Some done → Waits place s done.state
answered_waits place s (Ok d) done next h = subst (λ (x : Done). Waits place s x.state) (answered s (Ok d) done h) (next d refl)
answered_waits place s (Err why) done next h = subst (λ (x : Done). Waits place s x.state) (answered s (Err why) done h) (waits_same place s s refl)

pub file_waits : (s : State) (place session : ℕ) (c : Call) (done : Done) → file_step s place session c ≡ Some done → Waits place s done.state
file_waits s place session (call.OpenFile handle path flag) done h =
    answered_waits place s (open_path s session handle path flag) done (λ d e.
    let o = opens s session handle path flag d e in
    subst (λ (x : Done). Waits place s x.state) (sym o.is) (waits_same place s _ refl)) h
file_waits s place session (call.Close handle) done h =
    answered_waits place s (close s place session handle) done (λ d e.
    let left : State = with_handles s (map.remove s.tree.handles (key_of session handle)) in
    let goes = goes_on s session handle (λ ino f. Ok (closed_by left place ino f)) d e in
    let ino : ℕ = goes.on.ino in
    let f : File = goes.on.file in
    subst (λ (x : Done). Waits place s x.state) (sym (ok_is (closed_by left place ino f) d goes.is))
    (waits_next place s left (closed_by left place ino f).state (waits_same place s left refl) (last_waits place left ino f (is_open left.tree ino) (f.nlink == 0) (is_set 8 f.attrs) (is_set 16 f.attrs)))) h
file_waits s place session (call.Read handle offset count) done h =
    answered_waits place s (read s session handle offset count) done (λ d e.
    let goes = goes_on s session handle (λ ino f. read_file s offset count f) d e in
    subst (λ (x : Done). Waits place s x.state) (sym (ok_is _ d goes.is)) (waits_same place s s refl)) h
file_waits s place session (call.Write handle offset payload) done h =
    answered_waits place s (write s session handle offset payload) done (λ d e.
    let goes = goes_on s session handle (λ ino f. write_file s ino offset (payload_bytes payload) f) d e in
    filled_waits place s goes.on.ino offset (payload_bytes payload) goes.on.file d goes.is) h
file_waits s place session (call.Truncate handle size) done h =
    answered_waits place s (truncate s place session handle size) done (λ d e.
    let goes = goes_on s session handle (λ ino f. truncate_file s place ino size f) d e in
    let t = truncates s place goes.on.ino size goes.on.file d goes.is in
    subst (λ (x : Done). Waits place s x.state) (sym t.is) (sized_waits place s goes.on.ino goes.on.file size (nat_lt size (length goes.on.file.bytes)))) h
file_waits s place session (call.Fsync handle) done h =
    answered_waits place s (fsync s session handle) done (λ d e. subst (λ (x : Done). Waits place s x.state) (sym (fsyncs s session handle d e)) (waits_same place s s refl)) h
file_waits s place session _ done h = absurd cc

pub settled_waits : (s : State) (place ino : ℕ) → Waits place s (settle s place ino)
settled_waits s place ino = by (file_at s.tree.nodes ino)
  where
    by : (m : Maybe File) → Waits place s (settle_file s place ino m)
    by (Ok f) = settle_waits place s ino f
    by (Err why) = waits_same place s s refl
