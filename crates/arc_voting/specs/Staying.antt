-- What mail that stays lawful keeps.
use Rattle.std.specs.Prelude.{ℕ, ◌<◌, ◌⊎◌, Contains}
use Rattle.arc_data.specs.declared.command.Command.{Command}
use Rattle.arc_data.specs.declared.message.Message.{Message}
use Rattle.arc_data.specs.declared.message.Message.TheVariants.{Accept}
use Rattle.arc_voting.specs.Growth.{Grows, HasVote}
use Rattle.arc_voting.specs.Handled.{IsHandled}
use Rattle.arc_voting.specs.Journals.{Journals}
use Rattle.arc_voting.specs.Lawful.{Mail, IsLawfulTo, StaysLawful, AllStaysLawful}

-- Journals that handle their mail grow.
abbrev pub HandledGrow : Type 0
HandledGrow = (js after : Journals) (mail : Mail) → IsHandled js mail after → Grows js after

-- A message that stays lawful does so for all later journals.
abbrev pub StaysWhileTheyGrow : Type 0
StaysWhileTheyGrow = (js ks : Journals) (message : Message) → Grows js ks → StaysLawful js message → StaysLawful ks message

-- It is lawful to any node, beside any other mail.
abbrev pub StayingIsLawful : Type 0
StayingIsLawful = (js : Journals) (mail : Mail) (node : ℕ) (message : Message) → StaysLawful js message → IsLawfulTo js mail node message

-- Some message to one of the five nodes asks for a vote for the command.
abbrev pub IsAskedFor : Mail → Command → Type 0
IsAskedFor mail c = (node slot ballot : ℕ) × (node < 5) × Contains (mail node) (Accept slot ballot c)

-- Whatever mail is handled, a command that has a vote then had one before, or a vote for it was asked for.
abbrev pub NewVotesWereAskedFor : Type 0
NewVotesWereAskedFor = (js after : Journals) (mail : Mail) → IsHandled js mail after →
    (c : Command) → HasVote after c → HasVote js c ⊎ IsAskedFor mail c

-- Whatever part of mail that stays lawful each node has handled, a command that has a vote then had one before: handling
-- gives no vote to a command that has none.
abbrev pub NoCommandBegins : Type 0
NoCommandBegins = (js after : Journals) (mail : Mail) → AllStaysLawful js mail → IsHandled js mail after →
    (c : Command) → HasVote after c → HasVote js c
