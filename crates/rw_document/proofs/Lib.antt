mod DocumentCodes
mod Examples
mod Formats
mod SoundTable
