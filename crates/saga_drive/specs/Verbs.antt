-- The verbs of requests and the keys of each, as the specification of the format lists them.
use Rattle.std.specs.Prelude.{ℕ, List, [], ◌∷◌, Option, Some, None, codes, if◌then◌else◌}
use Rattle.std.specs.Str.{bytes_eq}
use Rattle.saga_drive.specs.declared.verbs.Verb.{Verb}
use Rattle.saga_drive.specs.declared.verbs.Verb.TheVariants.{Open, Next, Take, Report, Abort, Show, Busy, Ready, Sagas, Status, Define}

abbrev pub verb_named : List ℕ → Option Verb
verb_named word =
    if bytes_eq word (codes "open") then Some Open
    else (if bytes_eq word (codes "next") then Some Next
    else (if bytes_eq word (codes "take") then Some Take
    else (if bytes_eq word (codes "report") then Some Report
    else (if bytes_eq word (codes "abort") then Some Abort
    else (if bytes_eq word (codes "show") then Some Show
    else (if bytes_eq word (codes "busy") then Some Busy
    else (if bytes_eq word (codes "ready") then Some Ready
    else (if bytes_eq word (codes "list") then Some Sagas
    else (if bytes_eq word (codes "status") then Some Status
    else (if bytes_eq word (codes "define") then Some Define else None))))))))))

-- the required keys of the request
abbrev pub keys_of : Verb → List (List ℕ)
keys_of Open = codes "do" ∷ []
keys_of Next = codes "do" ∷ []
keys_of Take = codes "do" ∷ codes "saga" ∷ []
keys_of Report = codes "do" ∷ codes "saga" ∷ codes "step" ∷ codes "outcome" ∷ []
keys_of Abort = codes "do" ∷ codes "saga" ∷ []
keys_of Show = codes "do" ∷ codes "saga" ∷ []
keys_of Busy = codes "do" ∷ []
keys_of Ready = codes "do" ∷ []
keys_of Sagas = codes "do" ∷ []
keys_of Status = codes "do" ∷ []
keys_of Define = codes "do" ∷ codes "definition" ∷ []

-- the optional keys of the request
abbrev pub optional_keys_of : Verb → List (List ℕ)
optional_keys_of Open = codes "def" ∷ codes "name" ∷ codes "saga" ∷ []
optional_keys_of Next = codes "most" ∷ []
optional_keys_of Take = codes "step" ∷ []
optional_keys_of Report = codes "task" ∷ codes "attempt" ∷ []
optional_keys_of Abort = []
optional_keys_of Show = []
optional_keys_of Busy = []
optional_keys_of Ready = codes "from" ∷ []
optional_keys_of Sagas = codes "from" ∷ codes "phase" ∷ []
optional_keys_of Status = []
optional_keys_of Define = []
