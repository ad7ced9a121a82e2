mod ParseLemmas
mod TableLemmas
mod MatchLemmas
mod CountLemmas
mod FaultLemmas
mod ReplyLemmas
