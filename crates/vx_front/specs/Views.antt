-- What the seats of the table know, and what a step makes of it.
use Rattle.std.specs.Prelude.{ℕ, zero, suc, ◌+◌, max, cond, ltb, eqb, List, [], ◌∷◌, ◌++◌, length, slice_set, slice_index_or}
use Rattle.atomic_table.specs.Seated.{TableId}
use Rattle.vx_base.specs.declared.call.Call.TheVariants as call
use Rattle.vx_base.specs.declared.reply.Reply.TheVariants as reply
use Rattle.vx_front.specs.declared.views.Entry.{Entry}
use Rattle.vx_front.specs.declared.views.KernelView.{KernelView}
use Rattle.vx_front.specs.declared.views.CallerView.{CallerView}
use Rattle.vx_front.specs.declared.views.NoteView.{NoteView}

-- the last of these, or 0
abbrev pub last_of : List ℕ → ℕ
last_of [] = 0
last_of (x ∷ []) = x
last_of (x ∷ y ∷ ys) = last_of (y ∷ ys)

-- the fronts with one more, if it is greater than the last
abbrev pub with_front : List ℕ → ℕ → List ℕ
with_front fronts front = cond (ltb (last_of fronts) front) (fronts ++ front ∷ []) fronts

-- the entries of one caller
abbrev pub calls_by : ℕ → List Entry → List Entry
calls_by n [] = []
calls_by n (e ∷ es) = cond (eqb e.caller n) (e ∷ calls_by n es) (calls_by n es)

abbrev pub longer_of : List Entry → List Entry → List Entry
longer_of xs ys = cond (ltb (length xs) (length ys)) ys xs

abbrev pub no_entry : Entry
no_entry = record { caller = 0; place = 0; call = call.Sync; answer = reply.Fine }

-- how many calls the kernel knows a caller to have begun
abbrev pub known_of : KernelView → ℕ → ℕ
known_of k n = slice_index_or k.known n 0

-- what a caller told the kernel of its answered calls
abbrev pub told_of : KernelView → ℕ → List Entry
told_of k n = slice_index_or k.told n []

-- n + 1 zeros
abbrev pub zeros : ℕ → List ℕ
zeros zero = 0 ∷ []
zeros (suc n) = zeros n ++ 0 ∷ []

-- n + 1 empty lists
abbrev pub empties : ℕ → List (List Entry)
empties zero = [] ∷ []
empties (suc n) = empties n ++ [] ∷ []

-- what the kernel knows that has made n callers and done nothing else
abbrev pub new_kernel : ℕ → KernelView
new_kernel n = record { made = n; fronts = []; log = []; known = zeros n; told = empties n; ended = [] }

abbrev pub new_caller : ℕ → CallerView
new_caller n = record { number = n; front = 0; reads = []; past = []; seen = []; note = []; begun = 0; mine = [] }

-- the kernel's view with one caller more
abbrev pub with_caller : KernelView → KernelView
with_caller k = record { made = k.made + 1; fronts = k.fronts; log = k.log; known = k.known ++ 0 ∷ []; told = k.told ++ [] ∷ []; ended = k.ended }

abbrev pub with_fronts : KernelView → List ℕ → KernelView
with_fronts k fronts = record k { fronts = fronts }

abbrev pub with_entry : KernelView → Entry → KernelView
with_entry k e = record k { log = k.log ++ e ∷ [] }

abbrev pub with_ended : KernelView → CallerView → KernelView
with_ended k c = record k { ended = k.ended ++ c ∷ [] }

abbrev pub with_read : CallerView → ℕ → CallerView
with_read c front = record c { front = front; reads = c.reads ++ front ∷ [] }

abbrev pub with_begun : CallerView → CallerView
with_begun c = record c { begun = c.begun + 1 }

abbrev pub with_answer : CallerView → Entry → CallerView
with_answer c e = record c { mine = c.mine ++ e ∷ [] }

-- what the kernel tells: its log and its last front
abbrev pub kernel_note : KernelView → NoteView
kernel_note k = record { number = 0; begun = 0; mine = []; log = k.log; front = last_of k.fronts }

-- what a caller tells: its calls
abbrev pub caller_note : CallerView → NoteView
caller_note c = record { number = c.number; begun = c.begun; mine = c.mine; log = []; front = 0 }

-- the kernel takes in a note
abbrev pub kernel_with_note : KernelView → NoteView → KernelView
kernel_with_note k n = record k { known = slice_set k.known n.number (max (known_of k n.number) n.begun); told = slice_set k.told n.number n.mine }

-- a caller takes in a note
abbrev pub caller_with_note : CallerView → NoteView → CallerView
caller_with_note c n = record c { past = c.seen; seen = longer_of c.seen n.log; note = n.log; front = max c.front n.front }

-- which table a seat is of, and what it knows
pub record KernelState : Type 0 where
  pub table : TableId
  pub knows : KernelView

pub record CallerState : Type 0 where
  pub table : TableId
  pub knows : CallerView

-- the seats of the callers 1 to n, which know nothing yet
abbrev pub new_seats : TableId → ℕ → List CallerState
new_seats table zero = []
new_seats table (suc n) = new_seats table n ++ record { table = table; knows = new_caller (suc n) } ∷ []
