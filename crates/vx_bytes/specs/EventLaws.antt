-- What events leave of what is held of every file. Each clause speaks of the states before and after the event.
use Rattle.std.specs.Prelude.{◌≡◌, ◌≢◌, ◌<◌, ℕ, All, List, [], ◌∷◌, ◌++◌, length}
use Rattle.vx_base.specs.declared.event.Event.{Event}
use Rattle.vx_base.specs.declared.event.Event.TheVariants as event
use Rattle.vx_base.specs.declared.mode.Logging.{Logging}
use Rattle.vx_base.specs.declared.refusal.Refusal.{Refusal}
use Rattle.vx_base.specs.declared.reply.Reply.{Reply}
use Rattle.vx_base.specs.declared.reply.Reply.TheVariants as say
use Rattle.vx_dev.specs.Tape.{Tape}
use Rattle.vx_model.specs.AllowedLaws.{IsPlaced}
use Rattle.vx_model.specs.Legal.{World, after, after_all}
use Rattle.vx_bytes.specs.BlockUse.{GivesUp, UsesBlocks}
use Rattle.vx_bytes.specs.Events.{IsUntouched, LeavesOthers, IsLonger, IsShorter, IsEmptied, IsSettledNow, IsUnpromising}
use Rattle.vx_bytes.specs.Histories.{present}
use Rattle.vx_bytes.specs.Kept.{Progress, Sinces, HoldsFiles, IsFlushed, IsStableNow, counted_from, sinces_from}
use Rattle.vx_bytes.specs.Standings.{Mark, Stable, part_of}

-- an event behind the history, and what it leaves of all files but one
pub record IsNext (opening : World) (history : List Event) (e : Event) (ino : ℕ) : Type 0 where
  pub placed : All (IsPlaced (length history)) history
  pub unpromising : IsUnpromising e
  pub others : LeavesOthers (present opening history) (present opening (history ++ e ∷ [])) ino

-- the marks of all other files are as they were
abbrev pub MarksOthers : ℕ → (ℕ → ℕ → Mark) → (ℕ → ℕ → Mark) → Type 0
MarksOthers ino old new = (n q : ℕ) → n ≢ ino → new n q ≡ old n q

pub record EventLaws : Type 0 where
  -- the states before and after an event, in the words of a legal history
  pub state : (o : World) (h : List Event) → present o h ≡ (after_all o h).state
  pub next : (o : World) (h : List Event) (e : Event) → present o (h ++ e ∷ []) ≡ (after (after_all o h) e).state
  -- no file is touched: a read, an open, a call of names alone
  pub untouched : (mode : Logging) (o : World) (h : List Event) (e : Event) (p : Progress) (since : Sinces) (t : Tape) → All (IsPlaced (length h)) h → IsUnpromising e → ((n : ℕ) → IsUntouched (present o h) (present o (h ++ e ∷ [])) n)
      → HoldsFiles mode o h p since t → HoldsFiles mode o (h ++ e ∷ []) p since t
  -- a file has more bytes or other ones, and what is new is marked as changed
  pub longer : (mode : Logging) (o : World) (h : List Event) (e : Event) (p : Progress) (since : Sinces) (t : Tape) (marks : ℕ → ℕ → Mark) (ino : ℕ) → IsNext o h e ino → MarksOthers ino p.marks marks
      → IsLonger (present o h) (present o (h ++ e ∷ [])) ino (p.marks ino) (marks ino) → GivesUp (present o h) (present o (h ++ e ∷ [])) (length h) → UsesBlocks o (h ++ e ∷ []) p.committed p.closing
      → HoldsFiles mode o h p since t → HoldsFiles mode o (h ++ e ∷ []) (record p { marks = marks }) since t
  -- a file is cut
  pub shorter : (mode : Logging) (o : World) (h : List Event) (e : Event) (p : Progress) (since : Sinces) (t : Tape) (ino size : ℕ) → IsNext o h e ino → IsShorter (present o h) (present o (h ++ e ∷ [])) ino size
      → HoldsFiles mode o h p since t → HoldsFiles mode o (h ++ e ∷ []) p since t
  -- a file comes or goes; its marks may be any
  pub emptied : (mode : Logging) (o : World) (h : List Event) (e : Event) (p : Progress) (since : Sinces) (t : Tape) (marks : ℕ → ℕ → Mark) (ino : ℕ) → IsNext o h e ino → MarksOthers ino p.marks marks → IsEmptied (present o h) (present o (h ++ e ∷ [])) ino
      → HoldsFiles mode o h p since t → HoldsFiles mode o (h ++ e ∷ []) (record p { marks = marks }) since t
  -- a settle of a file whose pages are stable: its size and bytes count from there
  pub settled : (mode : Logging) (o : World) (h : List Event) (e : Event) (p : Progress) (since : Sinces) (t : Tape) (ino : ℕ) → IsNext o h e ino → (s : IsSettledNow (present o h) (present o (h ++ e ∷ [])) ino) → ((i : ℕ) → i < length s.was.bytes → p.marks ino (part_of i) ≡ Stable)
      → HoldsFiles mode o h p since t → HoldsFiles mode o (h ++ e ∷ []) p (record since { present = counted_from ino (length (h ++ e ∷ [])) since.present }) t
  -- waiting blocks become free
  pub released : (mode : Logging) (o : World) (h : List Event) (p : Progress) (since : Sinces) (t : Tape) (at upto : ℕ) → All (IsPlaced (length h)) h → HoldsFiles mode o h p since t → HoldsFiles mode o (h ++ event.Release at upto ∷ []) p since t
  -- a call returns when what it promises is on the device in the committed state
  pub answered : (mode : Logging) (o : World) (h : List Event) (p : Progress) (since : Sinces) (t : Tape) (at place : ℕ) (answer : Reply) → All (IsPlaced (length h)) h → place < length h → IsFlushed mode o h place since.committed
      → HoldsFiles mode o h p since t → HoldsFiles mode o (h ++ event.Ret at place answer ∷ []) p since t
  -- a refusal promises nothing
  pub refused : (mode : Logging) (o : World) (h : List Event) (p : Progress) (since : Sinces) (t : Tape) (at place : ℕ) (why : Refusal) → All (IsPlaced (length h)) h → HoldsFiles mode o h p since t → HoldsFiles mode o (h ++ event.Ret at place (say.Refused why) ∷ []) p since t
  -- the unmounting, where every file is stable as it is: all three states begin anew behind it
  pub unmounted : (mode : Logging) (o : World) (h : List Event) (p : Progress) (since : Sinces) (t : Tape) (at : ℕ) → ((n : ℕ) → IsStableNow (present o h) (p.marks n) n)
      → HoldsFiles mode o h p since t → HoldsFiles mode o (h ++ event.Unmounted at ∷ []) (record p { committed = length (h ++ event.Unmounted at ∷ []); closing = length (h ++ event.Unmounted at ∷ []) }) (sinces_from (length (h ++ event.Unmounted at ∷ []))) t
