-- What an error of clap says of the words.
use Rattle.clap.specs.declared.error.kind.ErrorKind.{ErrorKind}
use Rattle.clap.specs.declared.error.kind.ErrorKind.TheVariants.{OutOfMemory}
use Rattle.group_words.specs.declared.order.WordsFault.{WordsFault}
use Rattle.group_words.specs.declared.order.WordsFault.TheVariants.{Refused, NoMemory}

abbrev pub fault_by : ErrorKind → WordsFault
fault_by OutOfMemory = NoMemory
fault_by _ = Refused
