mod Climbing
mod Replying
mod RoundLaws
mod ServedLaws
