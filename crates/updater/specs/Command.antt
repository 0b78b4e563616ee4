-- What the words of a command line ask for, the program's name left out.
-- The first word is the command. Each following word that begins with one or more letters a to z and then `=` is
-- an option, up to the first word that is none. If that word is `--`, it is dropped. The words that remain are the form.
-- An option has to belong to the command, to stand once and to have a value in range, and the form has to be the
-- command's. Words that fit no command are a wrong use of the program, and so are more than MAX_WORDS.
use Rattle.std.specs.Prelude.{ℕ, ◌-◌, Bool, nat_lt, nat_le, ◌&&◌, if◌then◌else◌, Option, None, List, [], ◌∷◌, length, drop, take_while}
use Rattle.std.specs.Prelude.{◌≡◌, IfSome, codes, map, nat_eq}
use Rattle.std.specs.List.{prefix_len, starts_with}
use Rattle.std.specs.Option.{option_map}
use Rattle.std.specs.Str.{bytes_eq}
use Rattle.std.specs.String.{string_bytes}
use Rattle.updater.specs.commands.Append as append
use Rattle.updater.specs.commands.Check as check
use Rattle.updater.specs.commands.Demo as demo
use Rattle.updater.specs.commands.Export as export
use Rattle.updater.specs.commands.Feed as feed
use Rattle.updater.specs.commands.Follow as follow
use Rattle.updater.specs.commands.Import as import
use Rattle.updater.specs.commands.Init as init
use Rattle.updater.specs.commands.Lines as lines
use Rattle.updater.specs.commands.Migrate as migrate
use Rattle.updater.specs.commands.Points as points
use Rattle.updater.specs.commands.Query as query
use Rattle.updater.specs.commands.Replay as replay
use Rattle.updater.specs.commands.Serve as serve
use Rattle.updater.specs.commands.Tiles as tiles
use Rattle.updater.specs.declared.words.Command.{Command}
use Rattle.updater.specs.declared.words.Command.TheVariants.{Points, Lines, Init, Import, Append, Feed, Follow, Export, Tiles, Query, Serve}
use Rattle.updater.specs.declared.words.Command.TheVariants.{Replay, Migrate, Check, Demo}
use Rattle.updater.specs.declared.words.TheConstants.{MAX_WORDS}
use Rattle.updater.specs.declared.forms.Words.{Words}
use Rattle.run_promise.specs.CommandOf.{CommandOf, points_of, lines_of, init_of, import_of, append_of, export_of, tiles_of, query_of}
use Rattle.run_promise.specs.CommandOf.{FilesFit, feed_of, follow_of, serve_of, replay_of, migrate_of, check_of, demo_of}

-- a command of the program, as contracts see it
abbrev pub command_view : Command → CommandOf
command_view (Points key files) = points_of key.now files
command_view (Lines key files) = lines_of key.now files
command_view (Init store) = init_of store.now
command_view (Import store files buckets workers) = import_of store.now files buckets workers
command_view (Append store files ahead workers) = append_of store.now files ahead workers
command_view (Feed store files full workers) = feed_of store.now files full workers
command_view (Follow store files) = follow_of store.now files
command_view (Export store table) = export_of store.now table.now
command_view (Tiles store least clear) = tiles_of store.now least clear
command_view (Query store files) = query_of store.now files
command_view (Serve store files workers readers) = serve_of store.now files workers readers
command_view (Replay store files workers) = replay_of store.now files workers
command_view (Migrate store) = migrate_of store.now
command_view (Check store) = check_of store.now
command_view (Demo squares store workers) = demo_of squares.count store.now workers

-- words are read as a form says, and the files of a command that they ask for are as they have to be
pub record IsReadAs (form : (options words : List (List ℕ)) → (place : ℕ) → Option CommandOf) (words : Words)
    (result : Option Command) : Type 0 where
  pub read : option_map command_view result ≡ form (map string_bytes words.options.now) (map string_bytes words.form.now) words.place
  pub fits : IfSome result (λ command. FilesFit (command_view command))

-- what remains from the first on that fails a test
abbrev pub behind : {A : Type 0} → (A → Bool) → List A → List A
behind test items = drop (prefix_len test items) items

-- a to z
abbrev pub is_letter : ℕ → Bool
is_letter byte = nat_le 97 byte && nat_le byte 122

-- a word that begins with one or more letters and then `=`
abbrev pub is_option : List ℕ → Bool
is_option word = nat_lt 0 (length (take_while is_letter word)) && starts_with nat_eq (behind is_letter word) (codes "=")

-- words without `--` at their front
abbrev pub without_dashes : List (List ℕ) → List (List ℕ)
without_dashes [] = []
without_dashes (word ∷ words) = if bytes_eq word (codes "--") then words else word ∷ words

-- the options among the words behind the command word
abbrev pub options_of : List (List ℕ) → List (List ℕ)
options_of words = take_while is_option words

-- the words of the form among the words behind the command word
abbrev pub form_of : List (List ℕ) → List (List ℕ)
form_of words = without_dashes (behind is_option words)

-- what words ask for whose first is this name
abbrev pub named : (name : List ℕ) → (options form : List (List ℕ)) → (place : ℕ) → Option CommandOf
named name options form place =
    if bytes_eq name (codes "points") then points.form options form place else
    if bytes_eq name (codes "lines") then lines.form options form place else
    if bytes_eq name (codes "init") then init.form options form place else
    if bytes_eq name (codes "import") then import.form options form place else
    if bytes_eq name (codes "append") then append.form options form place else
    if bytes_eq name (codes "feed") then feed.form options form place else
    if bytes_eq name (codes "follow") then follow.form options form place else
    if bytes_eq name (codes "export") then export.form options form place else
    if bytes_eq name (codes "tiles") then tiles.form options form place else
    if bytes_eq name (codes "query") then query.form options form place else
    if bytes_eq name (codes "serve") then serve.form options form place else
    if bytes_eq name (codes "replay") then replay.form options form place else
    if bytes_eq name (codes "migrate") then migrate.form options form place else
    if bytes_eq name (codes "check") then check.form options form place else
    if bytes_eq name (codes "demo") then demo.form options form place else None

-- what all words ask for, where they ask for something
unfoldable pub command : List (List ℕ) → Option CommandOf
command [] = None
command (name ∷ words) =
    if nat_lt MAX_WORDS (length (name ∷ words)) then None else
    named name (options_of words) (form_of words) (length (name ∷ words) - length (form_of words))
