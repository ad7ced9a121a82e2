-- The contents of the text of a case, as contracts see them.
use Rattle.saga_cert.specs.declared.states.Written.{Written as Parts}
use Rattle.saga_cert.specs.Cases.{Written}

abbrev pub written : Parts → Written
written parts = record { states = parts.states.items; aborted = parts.aborted }
